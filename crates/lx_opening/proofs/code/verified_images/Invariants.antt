use Rattle.std.proofs.Common.{◌≡◌}
use Rattle.lx_opening.proofs.code.verified_images.Given as goal

abbrev pub invariant-loop-image : goal.invariant-loop-image
invariant-loop-image l = l.list.items ≡ l.yielded
