use Rattle.std.proofs.Common.{◌≡◌, Bool, ◌&&◌, length}
use Rattle.lx_caps.specs.declared.Principal.{Principal}
use Rattle.lx_cap_nodes.specs.Words.{nodes_at}
use Rattle.lx_writer_sets.specs.Sets.{writes_in}
use Rattle.lx_writer_sets.specs.Walks.{from, HasCome}
use Rattle.lx_writer_sets.proofs.chain.some_writer.Given as goal

-- none of the nodes so far passes, so those that are left are asked
abbrev pub invariant-loop-node : goal.invariant-loop-node
invariant-loop-node g l = record {
  come : HasCome (nodes_at l.pool.places l.list) l.node;
  rest : (t : Principal → Bool) → g.T.PrincipalTest.stands l.test t → (q : Principal)
      → (t q && writes_in l.at.part (from l.node (nodes_at l.pool.places l.list)) l.at.slot q) ≡ (t q && writes_in l.at.part (nodes_at l.pool.places l.list) l.at.slot q);
}

abbrev pub decreases-loop-node : goal.decreases-loop-node
decreases-loop-node g l = length (from l.node (nodes_at l.pool.places l.list))
