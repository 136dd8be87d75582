use Rattle.std.proofs.Common.{[], drop}
use Rattle.lx_trace_text.specs.Blocks.{Holds}
use Rattle.lx_trace_text.proofs.Keeping.{Giving}
use Rattle.lx_trace_text.proofs.globals.give_globals.Given as goal

abbrev pub invariant-loop-global : goal.invariant-loop-global
invariant-loop-global l = Holds [] l.fn.blocks → Giving l.program (drop l.global-index l.program.globals) l.blocks l.program.globals
