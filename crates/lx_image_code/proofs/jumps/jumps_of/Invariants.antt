use Rattle.std.proofs.Common.{◌≡◌, length}
use Rattle.lx_model.specs.Program.{home_or_kernel}
use Rattle.lx_code.specs.Fits.{AreTablesOf}
use Rattle.lx_image_code.specs.Code.{code_of}
use Rattle.lx_image_code.specs.Jumps.{image_blocks, numbers_at, types_in}
use Rattle.lx_image_code.proofs.Filled.{Each}
use Rattle.lx_image_code.proofs.jumps.jumps_of.Given as goal

abbrev pub invariant-loop-entry : goal.invariant-loop-entry
invariant-loop-entry l = record {
  count : length l.tables ≡ l.entry-index;
  each : Each (λ k t. AreTablesOf (types_in l.code k) (numbers_at l.code (home_or_kernel l.code k)) (image_blocks (code_of l.code l.images) k) t) l.tables;
}
