use Rattle.std.proofs.Common.{◌∙◌, sym, arith}
use Rattle.lx_cap_lists.proofs.PlacesWithin.{place_within}
use Rattle.lx_act_index.proofs.table.run_in.Goals as goal

pub line_in-requires : goal.line_in-requires
line_in-requires c =
    let within = place_within c.args.table.now.atoms.keys c.args.atom c.in-Some.place (sym c.place_of.ensures ∙ c.in-Some.is) in
    let table = c.requires in
    omega (arith, within, table)
