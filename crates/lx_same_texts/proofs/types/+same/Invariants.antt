use Rattle.std.proofs.Common.{◌≡◌, drop}
use Rattle.lx_ir.specs.IrType.{depth, depths}
use Rattle.lx_ir.specs.TypeNodes.{types_of_list}
use Rattle.lx_ir.specs.Faults.{same_types}
use Rattle.lx_same_texts.proofs.types.+same.Given as goal

abbrev pub decreases-is_same_type : goal.decreases-is_same_type
decreases-is_same_type l = depth l.a.now

abbrev pub decreases-are_same_types : goal.decreases-are_same_types
decreases-are_same_types l = depths (types_of_list l.a.now)

abbrev pub invariant-are_same_types-loop-i : goal.invariant-are_same_types-loop-i
invariant-are_same_types-loop-i l =
    same_types (types_of_list l.a) (types_of_list l.b) ≡ same_types (types_of_list (drop l.i l.a)) (types_of_list (drop l.i l.b))
