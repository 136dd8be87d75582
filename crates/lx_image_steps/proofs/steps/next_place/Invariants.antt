use Rattle.std.proofs.Common.{◌≡◌, map, true}
use Rattle.lx_image_steps.specs.Standing.{rest_from}
use Rattle.lx_image_steps.proofs.steps.next_place.Given as goal

abbrev pub invariant-loop-place : goal.invariant-loop-place
invariant-loop-place l = rest_from true l.from (map (λ i. i.op) l.instrs) ≡ rest_from true l.place (map (λ i. i.op) l.instrs)
