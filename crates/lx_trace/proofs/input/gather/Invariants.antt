use Rattle.std.proofs.Common.{[], List}
use Rattle.lx_model.specs.declared.program.Program.{Program}
use Rattle.lx_model.specs.declared.program.ScriptCall.{ScriptCall}
use Rattle.lx_trace.specs.Run.{StandsForTrace}
use Rattle.lx_trace.proofs.Gathering.{HasGathered}
use Rattle.lx_trace.proofs.input.gather.Given as goal

abbrev pub invariant-loop-entry : goal.invariant-loop-entry
invariant-loop-entry g l =
    (p : Program) (script : List (List ScriptCall)) → StandsForTrace g.C.CapStore.stands p script [] l.fn.run → HasGathered g.C.CapStore.stands p script l.schedule l.entry l.run l.out.items
