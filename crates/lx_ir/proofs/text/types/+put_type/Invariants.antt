use Rattle.std.proofs.Common.{◌≡◌, ◌++◌, take, map}
use Rattle.lx_ir.specs.IrType.{depth, depths}
use Rattle.lx_ir.specs.Text.{type_text, comma_list}
use Rattle.lx_ir.specs.TypeNodes.{types_of_list}
use Rattle.lx_ir.proofs.text.types.+put_type.Given as goal

abbrev pub decreases-put_type : goal.decreases-put_type
decreases-put_type l = depth l.ty.now

abbrev pub decreases-put_fields : goal.decreases-put_fields
decreases-put_fields l = depths (types_of_list l.fields.now)

abbrev pub invariant-put_fields-loop-i : goal.invariant-put_fields-loop-i
invariant-put_fields-loop-i l = l.out.items ≡ l.initial.out.items ++ comma_list (map (type_text l.m.types) (take l.i l.fields))
