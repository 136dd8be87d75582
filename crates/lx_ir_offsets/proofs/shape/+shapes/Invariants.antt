use Rattle.std.proofs.Common.{◌≡◌, drop}
use Rattle.lx_ir.specs.IrType.{depth, depths}
use Rattle.lx_ir.specs.TypeNodes.{types_of_list}
use Rattle.lx_ir_offsets.specs.Shapes.{fields_shape, empty_shape}
use Rattle.lx_ir_offsets.proofs.shape.+shapes.Given as goal

abbrev pub decreases-shape_of : goal.decreases-shape_of
decreases-shape_of l = depth l.t.now

abbrev pub decreases-fields_shape : goal.decreases-fields_shape
decreases-fields_shape l = depths (types_of_list l.fields.now)

abbrev pub invariant-fields_shape-loop-field : goal.invariant-fields_shape-loop-field
invariant-fields_shape-loop-field l = fields_shape l.shapes l.packed (types_of_list (drop l.field-index l.fields)) l.laid ≡ fields_shape l.shapes l.packed (types_of_list l.fields) empty_shape
