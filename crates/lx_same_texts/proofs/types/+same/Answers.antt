use Rattle.std.proofs.Common.{arith}
use Rattle.lx_ir.proofs.TypeLists.{depth_of_item}
use Rattle.lx_same_texts.proofs.types.+same.Goals as goal

pub are_same_types-is_same_type-requires : goal.are_same_types-is_same_type-requires
are_same_types-is_same_type-requires t c = (omega (arith, c.decreases, depth_of_item c.args.a.now c.loop-i.i c.index-a-i.result c.loop-i-test.true c.index-a-i.is), tt)
