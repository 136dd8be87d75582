-- No line has an entry.
use Rattle.std.proofs.Common.{◌≡◌, ◌≤◌, ◌-◌, ℕ, [], length}
use Rattle.lx_act_index.specs.Table.{line_at}
use Rattle.lx_act_index.proofs.table.new_table.Given as goal

abbrev pub invariant-loop-lines : goal.invariant-loop-lines
invariant-loop-lines l = (length l.lines.items ≤ 0xc000) × ((k : ℕ) → line_at l.lines.items k ≡ [])

abbrev pub decreases-loop-lines : goal.decreases-loop-lines
decreases-loop-lines l = 0xc000 - length l.lines.items
