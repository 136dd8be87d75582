use Rattle.std.proofs.Common.{sym, ◌∙◌, arith}
use Rattle.lx_cap_lists.proofs.PlacesWithin.{list_within}
use Rattle.lx_cap_tables.proofs.caps.list_of_key.Goals as goal

pub overflow_add-result : goal.overflow_add-result
overflow_add-result c = let h = list_within c.args.atoms.now.keys c.args.key c.in-Some.i (sym c.place_in.ensures ∙ c.in-Some.is) in let r = c.requires in omega (arith, h, r)
