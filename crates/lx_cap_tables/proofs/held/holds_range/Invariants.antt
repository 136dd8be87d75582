use Rattle.std.proofs.Common.{◌≡◌, ◌≤◌, ◌+◌, ◌/◌, ◌%◌, true, ℕ}
use Rattle.lx_cap_lists.specs.Holders.{counts}
use Rattle.lx_cap_lists.specs.Tables.{shown_at}
use Rattle.lx_cap_nodes.specs.Pieces.{part_list}
use Rattle.lx_cap_nodes.proofs.Ranges.{covered}
use Rattle.lx_cap_tables.proofs.held.holds_range.Given as goal

abbrev pub invariant-loop-part : goal.invariant-loop-part
invariant-loop-part l = record {
  low : l.at / 64 ≤ l.part;
  high : l.part ≤ (l.at + l.size + 63) / 64;
  held : (b : ℕ) → covered l.at l.size l.part b ≡ true → shown_at l.pool.places (part_list (b / 64)) (counts l.in_reach) (b % 64) ≡ true;
}
