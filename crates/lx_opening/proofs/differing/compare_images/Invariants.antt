use Rattle.std.proofs.Common.{ℕ, ◌<◌}
use Rattle.lx_simulation.specs.Accepted.{HasImageAt}
use Rattle.lx_opening.proofs.differing.compare_images.Given as goal

-- each module before this one has its image
abbrev pub invariant-loop-place : goal.invariant-loop-place
invariant-loop-place l = (m : ℕ) → m < l.place → HasImageAt l.program l.images m
