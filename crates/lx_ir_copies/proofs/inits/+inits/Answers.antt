use Rattle.std.proofs.Common.{arith}
use Rattle.lx_ir.proofs.InitLists.{depth_of_init}
use Rattle.lx_ir_copies.proofs.inits.+inits.Goals as goal

pub copied_inits-copied_init-requires : goal.copied_inits-copied_init-requires
copied_inits-copied_init-requires t c = (omega (arith, c.decreases, depth_of_init c.args.items.now c.loop-i.i c.index-items-i.result c.loop-i-test.true c.index-items-i.is), tt)
