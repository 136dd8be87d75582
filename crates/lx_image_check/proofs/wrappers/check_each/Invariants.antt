use Rattle.std.proofs.Common.{◌≡◌, drop}
use Rattle.lx_ir.specs.Faults.{first_some}
use Rattle.lx_image_texts.specs.ImageFaults.{missing_fault}
use Rattle.lx_image_check.proofs.wrappers.check_each.Given as goal

abbrev pub invariant-loop-wrapper : goal.invariant-loop-wrapper
invariant-loop-wrapper l = first_some (missing_fault l.m) l.wrappers ≡ first_some (missing_fault l.m) (drop l.wrapper-index l.wrappers)
