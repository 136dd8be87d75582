use Rattle.lx_trace_text.proofs.Keeping.{taken}
use Rattle.lx_trace_text.proofs.blocks.take.Goals as goal

pub returns : goal.returns
returns c = λ bs h. taken c.args.first c.args.last bs c.args.blocks.now c.loop-start.blocks h c.loop-start.invariant c.in_default.ensures.none
