use Rattle.std.proofs.Common.{arith}
use Rattle.lx_ir.proofs.InitLists.{depth_of_init}
use Rattle.lx_same_texts.proofs.globals.+inits.Goals as goal

pub are_same_inits-is_same_init-requires : goal.are_same_inits-is_same_init-requires
are_same_inits-is_same_init-requires t c = (omega (arith, c.decreases, depth_of_init c.args.a.now c.loop-i.i c.index-a-i.result c.loop-i-test.true c.index-a-i.is), tt)
