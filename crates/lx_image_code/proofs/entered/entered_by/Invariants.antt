use Rattle.std.proofs.Common.{◌≡◌, length}
use Rattle.lx_images.specs.Wrappers.{in_lines}
use Rattle.lx_image_code.specs.Code.{code_of}
use Rattle.lx_image_code.specs.Wrappers.{wrapper_lines}
use Rattle.lx_image_code.proofs.Filled.{Each}
use Rattle.lx_image_code.proofs.entered.entered_by.Given as goal

abbrev pub invariant-loop-entry : goal.invariant-loop-entry
invariant-loop-entry l = record {
  count : length l.entered ≡ l.entry-index;
  each : Each (λ k w. wrapper_lines (code_of l.code l.images) w ≡ in_lines (code_of l.code l.images) k) l.entered;
}
