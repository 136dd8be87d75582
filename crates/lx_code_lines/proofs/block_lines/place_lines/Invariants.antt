use Rattle.std.proofs.Common.{◌≡◌, drop, length}
use Rattle.std.specs.Prelude.{count_by}
use Rattle.lx_image_code.proofs.Filled.{Each}
use Rattle.lx_code_lines.proofs.Counting.{counted, IsLineOf}
use Rattle.lx_code_lines.proofs.block_lines.place_lines.Given as goal

abbrev pub invariant-loop-instr : goal.invariant-loop-instr
invariant-loop-instr l = record {
  count : length l.lines ≡ l.instr-index;
  left : l.left ≡ count_by (counted l.arrived) (drop l.instr-index l.instrs);
  each : Each (IsLineOf l.arrived l.instrs l.text) l.lines;
}
