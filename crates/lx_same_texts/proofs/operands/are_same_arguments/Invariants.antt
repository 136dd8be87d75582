use Rattle.std.proofs.Common.{◌≡◌, drop}
use Rattle.lx_image_texts.specs.ImageFaults.{same_argument}
use Rattle.lx_same_texts.specs.Same.{same_lists}
use Rattle.lx_same_texts.proofs.operands.are_same_arguments.Given as goal

abbrev pub invariant-loop-i : goal.invariant-loop-i
invariant-loop-i l = same_lists same_argument l.a l.b ≡ same_lists same_argument (drop l.i l.a) (drop l.i l.b)
