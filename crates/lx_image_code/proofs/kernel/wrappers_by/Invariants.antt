use Rattle.std.proofs.Common.{◌≡◌, length}
use Rattle.lx_image_code.proofs.Filled.{Each}
use Rattle.lx_image_code.proofs.Made.{IsMade}
use Rattle.lx_image_code.proofs.kernel.wrappers_by.Given as goal

abbrev pub invariant-loop-f : goal.invariant-loop-f
invariant-loop-f l = record {
  count : length l.made ≡ l.f-index;
  each : Each (IsMade l.program.interface l.program.kernel.functions) l.made;
}
