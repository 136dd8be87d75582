use Rattle.lx_ir_offsets.proofs.Depths.{field_is, field_is_none}
use Rattle.lx_ir_offsets.proofs.offset.field_type.Goals as goal

pub returns-then-k-fields : goal.returns-then-k-fields
returns-then-k-fields c = field_is c.args.fields.now c.args.i c.in_ok-k.k c.index-fields-k.result c.in_ok-k.ensures c.if-k-fields.true c.index-fields-k.is

pub returns-else-k-fields : goal.returns-else-k-fields
returns-else-k-fields c = field_is_none c.args.fields.now c.args.i c.in_ok-k.k c.in_ok-k.ensures c.if-k-fields.false
