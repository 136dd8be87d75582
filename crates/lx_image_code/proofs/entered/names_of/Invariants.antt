use Rattle.std.proofs.Common.{◌≡◌, take}
use Rattle.lx_image_code.proofs.entered.names_of.Given as goal

abbrev pub invariant-loop-image : goal.invariant-loop-image
invariant-loop-image l = l.names ≡ take l.image-index l.images
