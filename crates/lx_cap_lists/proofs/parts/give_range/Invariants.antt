use Rattle.std.proofs.Common.{◌≡◌, ◌≤◌, ◌+◌, ◌/◌, ◌%◌, ◌||◌, ◌&&◌, Bool, ℕ, length, Some}
use Rattle.lx_cap_nodes.specs.Words.{nodes_at}
use Rattle.lx_cap_lists.specs.declared.entry.Entry.{Entry}
use Rattle.lx_cap_lists.specs.Entries.{bit_among}
use Rattle.lx_cap_nodes.specs.declared.pool.ListName.{ListName}
use Rattle.lx_cap_lists.specs.Kept.{AllNodes, AreAll, FitsParts, Respects}
use Rattle.lx_cap_nodes.specs.Pieces.{part_list}
use Rattle.lx_cap_nodes.proofs.Ranges.{covered}
use Rattle.lx_cap_lists.specs.declared.holder.Holder.{Holder}
use Rattle.lx_cap_lists.proofs.parts.give_range.Given as goal

abbrev pub invariant-loop-part : goal.invariant-loop-part
invariant-loop-part l = record {
  low : l.at / 64 ≤ l.part;
  high : l.part ≤ (l.at + l.size + 63) / 64;
  bytes : (b k : ℕ) → part_list (b / 64) ≡ Some k → (among : Holder → Bool)
      → bit_among among (nodes_at l.pool.places k) (b % 64) ≡ ((among l.to && covered l.at l.size l.part b) || bit_among among (nodes_at l.fn.pool.places k) (b % 64));
  others : (k : ℕ) → 0xc000 ≤ k → nodes_at l.pool.places k ≡ nodes_at l.fn.pool.places k;
  counts : (length l.pool.places ≡ length l.fn.pool.places) × (length l.pool.owners ≡ length l.fn.pool.owners);
  nodes : AllNodes l.fn.pool.places → AllNodes l.pool.places;
  kept : (p : ListName → Entry → Bool) → Respects p → FitsParts p l.to l.owner → AreAll p l.fn.pool → AreAll p l.pool;
  spare : l.fn.pool.spare + l.at / 64 ≤ l.pool.spare + l.part;
}
