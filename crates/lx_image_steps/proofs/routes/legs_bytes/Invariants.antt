use Rattle.lx_image_steps.specs.Standing.{run_of}
use Rattle.lx_image_steps.proofs.Legs.{IsGone}
use Rattle.lx_image_steps.proofs.routes.legs_bytes.Given as goal

abbrev pub invariant-loop-place : goal.invariant-loop-place
invariant-loop-place l = IsGone l.code.program (run_of l.code l.run) l.legs l.indices l.place l.offset
