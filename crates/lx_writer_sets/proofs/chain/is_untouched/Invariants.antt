use Rattle.std.proofs.Common.{◌≡◌, ◌+◌, length}
use Rattle.lx_caps.specs.declared.Principal.{Principal}
use Rattle.lx_cap_nodes.specs.Words.{nodes_at}
use Rattle.lx_writer_sets.specs.Sets.{writes_in}
use Rattle.lx_writer_sets.specs.Walks.{from, HasCome}
use Rattle.lx_writer_sets.proofs.chain.is_untouched.Given as goal

-- the nodes so far are not of the slot
abbrev pub invariant-loop-node : goal.invariant-loop-node
invariant-loop-node g l = record {
  come : HasCome (nodes_at l.pool.places l.list) l.node;
  rest : (q : Principal) → writes_in l.at.part (from l.node (nodes_at l.pool.places l.list)) l.at.slot q ≡ writes_in l.at.part (nodes_at l.pool.places l.list) l.at.slot q;
  cost : l.steps + length (from l.node (nodes_at l.pool.places l.list)) ≡ l.fn.steps + length (nodes_at l.pool.places l.list);
}

abbrev pub decreases-loop-node : goal.decreases-loop-node
decreases-loop-node g l = length (from l.node (nodes_at l.pool.places l.list))
