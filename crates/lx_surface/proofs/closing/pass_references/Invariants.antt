use Rattle.lx_surface.proofs.Turns.{PassedReferences}
use Rattle.lx_surface.proofs.closing.pass_references.Given as goal

abbrev pub invariant-loop-place : goal.invariant-loop-place
invariant-loop-place l = PassedReferences l.program l.initial.work l.work l.place
