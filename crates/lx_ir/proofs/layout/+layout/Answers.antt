use Rattle.std.proofs.Common.{arith}
use Rattle.lx_ir.proofs.TypeLists.{depth_of_item}
use Rattle.lx_ir.proofs.layout.+layout.Goals as goal

pub fit_fields-fit_type-requires : goal.fit_fields-fit_type-requires
fit_fields-fit_type-requires t c = (omega (arith, c.decreases, depth_of_item c.args.fields.now c.loop-field.field-index c.field-item.result c.loop-field-test.true c.field-item.is), tt)
