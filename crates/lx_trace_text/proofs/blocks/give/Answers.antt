use Rattle.lx_trace_text.proofs.Keeping.{given}
use Rattle.lx_trace_text.proofs.blocks.give.Goals as goal

pub returns : goal.returns
returns c = λ bs h. given bs c.args.block _ _ h c.in_ok-insert.ensures.updates
