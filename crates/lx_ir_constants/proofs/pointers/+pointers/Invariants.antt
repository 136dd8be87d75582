use Rattle.std.proofs.Common.{◌*◌, ◌+◌}
use Rattle.lx_ir_constants.proofs.pointers.+pointers.Given as goal

abbrev pub decreases-pointer_within : goal.decreases-pointer_within
decreases-pointer_within l = 4 * l.depth

abbrev pub decreases-element_within : goal.decreases-element_within
decreases-element_within l = 4 * l.depth + 1

abbrev pub decreases-nested_pointer : goal.decreases-nested_pointer
decreases-nested_pointer l = 4 * l.depth + 2
