use Rattle.std.proofs.Common.{◌≡◌, drop}
use Rattle.lx_image_steps.specs.Phis.{with_words}
use Rattle.lx_image_steps.proofs.steps.give_phis.Given as goal

abbrev pub invariant-loop-phi : goal.invariant-loop-phi
invariant-loop-phi l = with_words (drop l.phi-index l.words) l.registers.items ≡ with_words l.words l.initial.registers.items
