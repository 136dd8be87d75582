use Rattle.std.proofs.Common.{sym, ◌∙◌, arith}
use Rattle.lx_cap_lists.proofs.PlacesWithin.{list_within}
use Rattle.lx_act_index.proofs.table.key_place.Goals as goal

pub overflow_add-result : goal.overflow_add-result
overflow_add-result c =
    let h = list_within c.args.table.now.atoms.keys c.args.key c.in-Some.place (sym c.place_in.ensures ∙ c.in-Some.is) in
    let r = c.requires in
    let small = c.args.table.now.lines.small in
    let ok = c.args.table.now.lines.ok in
    omega (arith, h, r, small, ok)
