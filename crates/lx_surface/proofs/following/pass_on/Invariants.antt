use Rattle.lx_surface.proofs.Passing.{PassedBelow}
use Rattle.lx_surface.proofs.following.pass_on.Given as goal

abbrev pub invariant-loop-place : goal.invariant-loop-place
invariant-loop-place l = PassedBelow l.program l.initial.work l.work l.holder l.what l.place
