use Rattle.std.proofs.Common.{◌≡◌, ◌++◌}
use Rattle.std.specs.Prelude.{filter}
use Rattle.lx_image_texts.specs.ImageFaults.{not_own}
use Rattle.lx_image_check.proofs.right.push_all_right.Given as goal

abbrev pub invariant-loop-wrapper : goal.invariant-loop-wrapper
invariant-loop-wrapper l = l.list.items ≡ l.fn.list.items ++ filter not_own l.yielded
