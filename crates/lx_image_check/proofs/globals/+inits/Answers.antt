use Rattle.std.proofs.Common.{arith}
use Rattle.lx_ir.proofs.InitLists.{depth_of_init}
use Rattle.lx_image_check.proofs.globals.+inits.Goals as goal

pub inits_mention-init_mentions-requires : goal.inits_mention-init_mentions-requires
inits_mention-init_mentions-requires t c = (omega (arith, c.decreases, depth_of_init c.args.items.now c.loop-i.i c.index-items-i.result c.loop-i-test.true c.index-items-i.is), tt)
