use Rattle.std.proofs.Common.{◌≡◌, take}
use Rattle.lx_ir.specs.IrType.{depth, depths}
use Rattle.lx_ir.specs.TypeNodes.{types_of_list}
use Rattle.lx_ir_copies.proofs.types.+types.Given as goal

abbrev pub decreases-copied_type : goal.decreases-copied_type
decreases-copied_type l = depth l.ty.now

abbrev pub decreases-copied_types : goal.decreases-copied_types
decreases-copied_types l = depths (types_of_list l.types.now)

abbrev pub invariant-copied_types-loop-i : goal.invariant-copied_types-loop-i
invariant-copied_types-loop-i l = l.copies.items ≡ take l.i l.types
