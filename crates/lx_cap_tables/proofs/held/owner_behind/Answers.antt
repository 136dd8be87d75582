use Rattle.std.proofs.Common.{sym, ◌∙◌, arith}
use Rattle.lx_cap_lists.proofs.PlacesWithin.{place_within}
use Rattle.lx_cap_tables.proofs.held.owner_behind.Goals as goal

pub first_owner-requires-clause-place : goal.first_owner-requires-clause-place
first_owner-requires-clause-place c = let r = c.requires.lists in let h = place_within c.args.atoms.now.keys c.args.atom c.in-Some.place (sym c.list_of_atom.ensures ∙ c.in-Some.is) in omega (arith, h, r)
