-- The lines behind those that are left stand in their places.
use Rattle.std.proofs.Common.{◌≡◌, ◌≤◌, length, take}
use Rattle.lx_act_index.specs.Table.{ArePut}
use Rattle.lx_act_index.proofs.table.put_lines.Given as goal

abbrev pub invariant-loop-line : goal.invariant-loop-line
invariant-loop-line l = record {
  left : l.fresh.items ≡ take (length l.fresh.items) l.fn.fresh.items;
  fewer : length l.fresh.items ≤ length l.fn.fresh.items;
  put : ArePut l.first (length l.fresh.items) l.fn.fresh.items l.fn.lines.items l.lines.items;
}

abbrev pub decreases-loop-line : goal.decreases-loop-line
decreases-loop-line l = length l.fresh.items
