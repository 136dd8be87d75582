use Rattle.std.proofs.Common.{◌≡◌, drop}
use Rattle.lx_ir.specs.Faults.{first_some}
use Rattle.lx_image_texts.specs.ImageFaults.{fault_in_function}
use Rattle.lx_image_marks.proofs.walk.check_functions.Given as goal

abbrev pub invariant-loop-f : goal.invariant-loop-f
invariant-loop-f g l = first_some (fault_in_function l.text) l.text.functions ≡ first_some (fault_in_function l.text) (drop l.f-index l.text.functions)
