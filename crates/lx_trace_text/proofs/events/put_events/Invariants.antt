use Rattle.std.proofs.Common.{List, ◌++◌, drop}
use Rattle.lx_trace_text.specs.declared.blocks.Block.{Block}
use Rattle.lx_trace_text.specs.Blocks.{Holds}
use Rattle.lx_trace_text.specs.Text.{event_lines}
use Rattle.lx_trace_text.proofs.Lines.{Telling}
use Rattle.lx_trace_text.proofs.events.put_events.Given as goal

abbrev pub invariant-loop-n : goal.invariant-loop-n
invariant-loop-n l =
    let t = l.told.teller in
    (bs : List Block) → Holds bs l.fn.blocks
    → Telling t.program.now t.names l.n (drop l.n l.events) l.blocks l.out.items (l.fn.out.items ++ event_lines t.program.now t.names bs 0 l.events)
