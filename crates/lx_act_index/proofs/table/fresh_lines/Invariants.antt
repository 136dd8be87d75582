-- The lines of the parts so far.
use Rattle.std.proofs.Common.{◌≤◌, ◌+◌, ◌/◌}
use Rattle.lx_act_index.specs.Table.{AreFresh}
use Rattle.lx_act_index.proofs.table.fresh_lines.Given as goal

abbrev pub invariant-loop-part : goal.invariant-loop-part
invariant-loop-part l = record {
  low : l.range.at / 64 ≤ l.part;
  high : l.part ≤ (l.range.at + l.range.size + 63) / 64;
  fresh : AreFresh l.threads l.saying l.range l.table.lines.items l.fresh.items l.part;
}
