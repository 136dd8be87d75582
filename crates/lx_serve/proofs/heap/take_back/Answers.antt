use Rattle.lx_serve.specs.Blocks.{AreKept}
use Rattle.lx_serve.proofs.heap.take_back.Goals as goal

pub returns-in-Ok-clause-freed : goal.returns-in-Ok-clause-freed
unfolding AreKept
returns-in-Ok-clause-freed c = λ bs kept. (c.in-Ok.ensures.freed bs kept).1
