use Rattle.std.proofs.Common.{arith}
use Rattle.lx_ir.proofs.TypeLists.{depth_of_item}
use Rattle.lx_ir_offsets.proofs.shape.+shapes.Goals as goal

pub fields_shape-shape_of-requires-in-loop-field : goal.fields_shape-shape_of-requires-in-loop-field
fields_shape-shape_of-requires-in-loop-field t c = (omega (arith, c.decreases, depth_of_item c.args.fields.now c.loop-field.field-index c.field-item.result c.loop-field-test.true c.field-item.is), tt)
