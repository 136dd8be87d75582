use Rattle.std.proofs.Common.{◌≡◌, ◌≢◌, ◌+◌, ◌≤◌, ℕ, Bool, List, ◌++◌, length}
use Rattle.lx_cap_nodes.specs.Words.{nodes_at}
use Rattle.lx_cap_lists.specs.declared.entry.Entry.{Entry}
use Rattle.lx_cap_lists.specs.Entries.{cut_all}
use Rattle.lx_cap_nodes.specs.declared.pool.ListName.{ListName}
use Rattle.lx_cap_lists.specs.Kept.{AreAll, Respects}
use Rattle.lx_cap_lists.specs.Walks.{from, HasCome}
use Rattle.lx_cap_lists.proofs.lists.take.Given as goal

abbrev pub invariant-loop-node : goal.invariant-loop-node
invariant-loop-node g l = record {
  come : HasCome (nodes_at l.pool.places l.place) l.node;
  front : List (ℕ × Entry);
  whole : nodes_at l.fn.pool.places l.place ≡ front ++ from l.node (nodes_at l.pool.places l.place);
  left : nodes_at l.pool.places l.place ≡ cut_all l.bits front ++ from l.node (nodes_at l.pool.places l.place);
  others : (k : ℕ) → k ≢ l.place → nodes_at l.pool.places k ≡ nodes_at l.fn.pool.places k;
  counts : (length l.pool.places ≡ length l.fn.pool.places) × (length l.pool.owners ≡ length l.fn.pool.owners);
  spare : l.fn.pool.spare ≤ l.pool.spare;
  kept : (p : ListName → Entry → Bool) → Respects p → AreAll p l.fn.pool → AreAll p l.pool;
  cost : l.steps + length (from l.node (nodes_at l.pool.places l.place)) ≡ l.fn.steps + length (nodes_at l.fn.pool.places l.place);
}

abbrev pub decreases-loop-node : goal.decreases-loop-node
decreases-loop-node g l = length (from l.node (nodes_at l.pool.places l.place))
