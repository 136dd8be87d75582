use Rattle.std.proofs.Common.{◌≡◌, ◌+◌, ◌-◌, Some, ◌≤◌, ℕ, Bool, [], List, max, length}
use Rattle.lx_cap_nodes.specs.declared.pool.ListName.{ListName}
use Rattle.lx_cap_nodes.specs.Words.{nodes_at}
use Rattle.lx_cap_lists.specs.declared.entry.Entry.{Entry}
use Rattle.lx_cap_lists.specs.Kept.{AllNodes, AreAll, AreEnded, StayBut}
use Rattle.lx_cap_lists.specs.Tables.{Key, is_in_order, loan_key, loans_work, place_in}
use Rattle.lx_cap_tables.proofs.loans.shut_loans.Given as goal

abbrev pub invariant-loop-older : goal.invariant-loop-older
invariant-loop-older g l = record {
  low : l.ended.first ≤ l.older;
  high : l.older ≤ max l.ended.first l.ended.end;
  gone : (atoms : List Key) (loans : List ℕ) → AreAll (is_in_order l.owners.keys atoms loans) l.fn.pool → AreEnded l.ended.thread l.ended.first l.older l.pool;
  stays : (atoms : List Key) (loans : List ℕ) → AreAll (is_in_order l.owners.keys atoms loans) l.fn.pool → StayBut l.ended.thread l.ended.first l.older l.fn.pool.places l.pool.places;
  empty : (k : ℕ) → nodes_at l.fn.pool.places k ≡ [] → nodes_at l.pool.places k ≡ [];
  counts : (length l.pool.places ≡ length l.fn.pool.places) × (length l.pool.owners ≡ length l.fn.pool.owners);
  spare : l.fn.pool.spare ≤ l.pool.spare;
  nodes : AllNodes l.fn.pool.places → AllNodes l.pool.places;
  later : (d k : ℕ) → l.older ≤ d → place_in l.owners.keys (loan_key l.ended.thread d) ≡ Some k → nodes_at l.pool.owners k ≡ nodes_at l.fn.pool.owners k;
  cost : l.steps + loans_work l.fn.pool.owners l.owners.keys l.ended.thread l.older (l.ended.end - l.older) ≡ l.fn.steps + loans_work l.fn.pool.owners l.owners.keys l.ended.thread l.ended.first (l.ended.end - l.ended.first);
  kept : (p : ListName → Entry → Bool) → AreAll p l.fn.pool → AreAll p l.pool;
}
