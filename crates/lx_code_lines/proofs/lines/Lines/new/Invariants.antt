use Rattle.std.proofs.Common.{◌≡◌, length}
use Rattle.lx_image_code.proofs.Filled.{Each}
use Rattle.lx_code_lines.specs.Lines.{AreFunctionLines}
use Rattle.lx_code_lines.proofs.lines.Lines.new.Given as goal

abbrev pub invariant-loop-number : goal.invariant-loop-number
invariant-loop-number l = record {
  count : length l.functions ≡ l.number;
  each : Each (AreFunctionLines l.code) l.functions;
}
