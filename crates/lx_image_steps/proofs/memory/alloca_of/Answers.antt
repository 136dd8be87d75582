use Rattle.std.proofs.Common.{arith}
use Rattle.lx_image_steps.proofs.memory.alloca_of.Goals as goal

pub next_multiple_of-requires-clause-fits : goal.next_multiple_of-requires-clause-fits
next_multiple_of-requires-clause-fits c = omega (arith, c.requires.small, c.requires.nonzero, c.args.run.now.below)
