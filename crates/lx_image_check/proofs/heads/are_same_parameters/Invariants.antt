use Rattle.std.proofs.Common.{◌≡◌, drop}
use Rattle.lx_image_texts.specs.ImageFaults.{same_params}
use Rattle.lx_image_check.proofs.heads.are_same_parameters.Given as goal

abbrev pub invariant-loop-i : goal.invariant-loop-i
invariant-loop-i l = same_params l.a l.b ≡ same_params (drop l.i l.a) (drop l.i l.b)
