use Rattle.lx_surface.proofs.Turns.{FollowedBelow}
use Rattle.lx_surface.proofs.closing.follow_all.Given as goal

abbrev pub invariant-loop-place : goal.invariant-loop-place
invariant-loop-place l = FollowedBelow l.program l.initial.work l.work l.place
