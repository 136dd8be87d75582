use Rattle.std.proofs.Common.{arith, sym, ◌∙◌}
use Rattle.lx_ir.proofs.TypeLists.{depth_of_item}
use Rattle.lx_ir_offsets.proofs.Inside.{outside_first}
use Rattle.lx_ir_offsets.proofs.shape.+places.Goals as goal

pub left_behind-returns-then-is_outside : goal.left_behind-returns-then-is_outside
left_behind-returns-then-is_outside t c = outside_first c.args.shapes.now c.args.t.now c.args.left (sym c.is_outside.ensures ∙ c.if-is_outside.true)

pub left_behind_fields-left_behind-requires : goal.left_behind_fields-left_behind-requires
left_behind_fields-left_behind-requires t c = (omega (arith, c.decreases, depth_of_item c.args.fields.now c.loop-field.field-index c.field-item.result c.loop-field-test.true c.field-item.is), tt)
