use Rattle.std.proofs.Common.{◌≡◌, take}
use Rattle.std.specs.Prelude.{flat_map}
use Rattle.lx_image_steps.specs.Standing.{run_of}
use Rattle.lx_image_steps.specs.Phis.{phi_words}
use Rattle.lx_image_steps.proofs.steps.phis_of.Given as goal

abbrev pub invariant-loop-place : goal.invariant-loop-place
invariant-loop-place l =
    l.words.items ≡ flat_map (λ i. phi_words l.code.program (run_of l.code l.before) i.op) (take l.place l.instrs)
