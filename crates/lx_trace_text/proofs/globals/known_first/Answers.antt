use Rattle.lx_trace_text.proofs.Keeping.{empty}
use Rattle.lx_trace_text.proofs.globals.known_first.Goals as goal

pub returns-in-Ok : goal.returns-in-Ok
returns-in-Ok c = c.in-Ok.ensures (empty _ c.new-blocks.ensures.empty)
