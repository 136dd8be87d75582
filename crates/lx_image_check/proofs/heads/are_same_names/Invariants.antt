use Rattle.std.proofs.Common.{◌≡◌, drop}
use Rattle.lx_image_texts.specs.ImageFaults.{same_names}
use Rattle.lx_image_check.proofs.heads.are_same_names.Given as goal

abbrev pub invariant-loop-i : goal.invariant-loop-i
invariant-loop-i l = same_names l.a l.b ≡ same_names (drop l.i l.a) (drop l.i l.b)
