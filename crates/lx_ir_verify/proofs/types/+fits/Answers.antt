use Rattle.std.proofs.Common.{arith}
use Rattle.lx_ir.proofs.InitLists.{depth_of_init}
use Rattle.lx_ir_verify.proofs.types.+fits.Goals as goal

pub inits_fit-init_fits-requires : goal.inits_fit-init_fits-requires
inits_fit-init_fits-requires t c = (omega (arith, c.decreases, depth_of_init c.args.items.now c.loop-i.i c.index-items-i.result (omega arith) c.index-items-i.is), tt)
