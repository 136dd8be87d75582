use Rattle.std.proofs.Common.{◌≡◌, ◌≢◌, ℕ, ◌+◌, ◌≤◌, Bool, not, true, [], length}
use Rattle.lx_cap_nodes.specs.declared.pool.ListName.{ListName}
use Rattle.lx_cap_nodes.specs.Names.{first_of}
use Rattle.lx_cap_nodes.specs.Words.{names, nodes_at}
use Rattle.lx_cap_lists.specs.declared.entry.Entry.{Entry}
use Rattle.lx_cap_lists.specs.declared.holder.Holder.{Holder}
use Rattle.lx_cap_lists.specs.Entries.{bit_among}
use Rattle.lx_cap_lists.specs.Kept.{all_nodes, AllNodes, AreAll}
use Rattle.lx_cap_lists.proofs.lists.take_all.Given as goal

abbrev pub invariant-loop-node : goal.invariant-loop-node
invariant-loop-node g l = record {
  here : l.node ≡ first_of (names (nodes_at l.pool.owners l.list));
  stays : (among : Holder → Bool) → all_nodes (λ e. not (among e.holder)) (nodes_at l.fn.pool.owners l.list) ≡ true
      → (all_nodes (λ e. not (among e.holder)) (nodes_at l.pool.owners l.list) ≡ true) × ((k j : ℕ) → bit_among among (nodes_at l.pool.places k) j ≡ bit_among among (nodes_at l.fn.pool.places k) j);
  other_owners : (k : ℕ) → k ≢ l.list → nodes_at l.pool.owners k ≡ nodes_at l.fn.pool.owners k;
  empty : (k : ℕ) → nodes_at l.fn.pool.places k ≡ [] → nodes_at l.pool.places k ≡ [];
  counts : (length l.pool.places ≡ length l.fn.pool.places) × (length l.pool.owners ≡ length l.fn.pool.owners);
  spare : l.fn.pool.spare ≤ l.pool.spare;
  nodes : AllNodes l.fn.pool.places → AllNodes l.pool.places;
  kept : (p : ListName → Entry → Bool) → AreAll p l.fn.pool → AreAll p l.pool;
  cost : l.steps + length (nodes_at l.pool.owners l.list) ≡ l.fn.steps + length (nodes_at l.fn.pool.owners l.list);
}

abbrev pub decreases-loop-node : goal.decreases-loop-node
decreases-loop-node g l = length (nodes_at l.pool.owners l.list)
