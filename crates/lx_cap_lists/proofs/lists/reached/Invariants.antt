use Rattle.std.proofs.Common.{◌≡◌, ℕ, ◌||◌, length}
use Rattle.lx_cap_lists.specs.Holders.{counts}
use Rattle.lx_cap_nodes.specs.Words.{nodes_at}
use Rattle.lx_cap_nodes.specs.Bits.{is_set}
use Rattle.lx_cap_lists.specs.Entries.{bit_among}
use Rattle.lx_cap_lists.specs.Walks.{from, HasCome}
use Rattle.lx_cap_lists.proofs.lists.reached.Given as goal

abbrev pub invariant-loop-node : goal.invariant-loop-node
invariant-loop-node l = record {
  come : HasCome (nodes_at l.pool.places l.place) l.node;
  bits : (k : ℕ) → (is_set l.bits k || bit_among (counts l.in_reach) (from l.node (nodes_at l.pool.places l.place)) k) ≡ bit_among (counts l.in_reach) (nodes_at l.pool.places l.place) k;
}

abbrev pub decreases-loop-node : goal.decreases-loop-node
decreases-loop-node l = length (from l.node (nodes_at l.pool.places l.place))
