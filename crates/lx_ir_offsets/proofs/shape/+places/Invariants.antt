use Rattle.std.proofs.Common.{◌≡◌, drop}
use Rattle.lx_ir.specs.IrType.{depth, depths}
use Rattle.lx_ir.specs.TypeNodes.{types_of_list}
use Rattle.lx_ir_offsets.specs.Shapes.{left_behind_more}
use Rattle.lx_ir_offsets.proofs.shape.+places.Given as goal

abbrev pub decreases-left_behind : goal.decreases-left_behind
decreases-left_behind l = depth l.t.now

abbrev pub decreases-left_behind_fields : goal.decreases-left_behind_fields
decreases-left_behind_fields l = depths (types_of_list l.fields.now)

abbrev pub invariant-left_behind_fields-loop-field : goal.invariant-left_behind_fields-loop-field
invariant-left_behind_fields-loop-field l = left_behind_more l.shapes (types_of_list (drop l.field-index l.fields)) l.left ≡ left_behind_more l.shapes (types_of_list l.fields) l.fn.left
