use Rattle.std.proofs.Common.{arith}
use Rattle.lx_ir.proofs.TypeLists.{depth_of_item}
use Rattle.lx_ir_copies.proofs.types.+types.Goals as goal

pub copied_types-copied_type-requires : goal.copied_types-copied_type-requires
copied_types-copied_type-requires t c = (omega (arith, c.decreases, depth_of_item c.args.types.now c.loop-i.i c.index-types-i.result c.loop-i-test.true c.index-types-i.is), tt)
