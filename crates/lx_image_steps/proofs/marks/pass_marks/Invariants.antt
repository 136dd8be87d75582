use Rattle.lx_image_steps.specs.Marks.{StepsAs, moved}
use Rattle.lx_image_steps.specs.Standing.{run_of}
use Rattle.lx_image_steps.proofs.marks.pass_marks.Given as goal

abbrev pub invariant-loop-place : goal.invariant-loop-place
invariant-loop-place l = StepsAs l.code (run_of l.code l.run) l.marks (moved l.code l.run l.place)
