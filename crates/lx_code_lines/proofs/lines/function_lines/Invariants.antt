use Rattle.std.proofs.Common.{◌≡◌, length}
use Rattle.lx_image_code.proofs.Filled.{Each}
use Rattle.lx_code_lines.proofs.Standing.{IsBlockOf}
use Rattle.lx_code_lines.proofs.lines.function_lines.Given as goal

abbrev pub invariant-loop-block : goal.invariant-loop-block
invariant-loop-block l = record {
  count : length l.lines ≡ l.block-index;
  each : Each (IsBlockOf l.code l.number) l.lines;
}
