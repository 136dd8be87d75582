use Rattle.std.proofs.Common.{◌∙◌, sym, ap, length, arith}
use Rattle.lx_cap_lists.proofs.PlacesWithin.{list_within}
use Rattle.lx_act_index.proofs.table.place_of_key.Goals as goal

pub overflow_add-result : goal.overflow_add-result
overflow_add-result c =
    let keys = c.in_ok-reserve.ensures.keys in
    let within = list_within c.reserve.new.self.keys c.args.key c.in-Some.place (sym c.place_in.ensures ∙ c.in-Some.is) in
    let same = ap length keys in
    let table = c.requires.table in
    let small = c.args.table.now.lines.small in
    let ok = c.args.table.now.lines.ok in
    omega (arith, within, same, table, small, ok)
