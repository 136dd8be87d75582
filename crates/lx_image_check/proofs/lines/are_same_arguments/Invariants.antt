use Rattle.std.proofs.Common.{◌≡◌, drop}
use Rattle.lx_image_texts.specs.ImageFaults.{same_arguments}
use Rattle.lx_image_check.proofs.lines.are_same_arguments.Given as goal

abbrev pub invariant-loop-i : goal.invariant-loop-i
invariant-loop-i l = same_arguments l.a l.b ≡ same_arguments (drop l.i l.a) (drop l.i l.b)
