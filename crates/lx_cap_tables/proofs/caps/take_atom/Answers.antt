use Rattle.std.proofs.Common.{sym, ◌∙◌, subst, arith}
use Rattle.lx_cap_nodes.specs.Words.{nodes_at}
use Rattle.lx_cap_lists.specs.Kept.{AreNodes, width_of}
use Rattle.lx_cap_lists.proofs.NodeLemmas.{nodes_at_one, nodes_cut}
use Rattle.lx_cap_lists.proofs.PlacesWithin.{behind_within}
use Rattle.lx_cap_tables.proofs.caps.take_atom.Goals as goal

pub take-requires : goal.take-requires
take-requires g c =
    record { place = let h = behind_within c.args.atoms.now.keys c.args.key c.in-Some.place (sym c.list_of_key.ensures ∙ c.in-Some.is) in let r = c.requires.lists in omega (arith, h, r) }

pub returns-in-Some-clause-nodes : goal.returns-in-Some-clause-nodes
returns-in-Some-clause-nodes g c =
    nodes_at_one c.args.pool.now.places c.take.new.pool.places c.in-Some.place
    (λ all. subst (AreNodes (width_of c.in-Some.place)) (sym c.take.ensures.here) (nodes_cut (width_of c.in-Some.place) 1 (nodes_at c.args.pool.now.places c.in-Some.place) all)) c.take.ensures.others
