use Rattle.std.proofs.Common.{◌<◌, ◌^◌, arith}
use Rattle.lx_writer_sets.proofs.SlotMasks.{met_exactly}
use Rattle.lx_writer_sets.proofs.entry.touches.Goals as goal

pub returns : goal.returns
returns c =
    let small : c.args.at.mask < 2 ^ 64 = omega arith in
    met_exactly c.args.at.part c.args.entry c.args.at.slot c.args.at.mask small c.args.at.bits
