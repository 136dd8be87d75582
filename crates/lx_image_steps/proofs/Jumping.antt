-- Blocks by their labels, and by their numbers.
use Rattle.std.proofs.Common.{◌≡◌, ap, ℕ, Some, None, List}
use Rattle.std.specs.Prelude.{bytes_eq, position, slice_get}
use Rattle.lx_model.specs.declared.program.Program.{Program}
use Rattle.lx_model.specs.declared.request.Trap.TheVariants.{Unreachable}
use Rattle.lx_model.specs.Thread.{Activation, CodeBlock}
use Rattle.lx_model.specs.Effect.{Traps, arrival, jump_effect}
use Rattle.lx_image_steps.proofs.Firsts.{at_first}

pub jumps_to : (p : Program) (a : Activation) (label : List ℕ) (k : ℕ) → Some k ≡ position (λ (b : CodeBlock). bytes_eq b.label label) a.blocks →
    arrival p a (slice_get a.blocks k) ≡ jump_effect p a label
jumps_to p a label k is = ap (arrival p a) (at_first (λ (b : CodeBlock). bytes_eq b.label label) a.blocks (Some k) is)

pub jumps_nowhere : (p : Program) (a : Activation) (label : List ℕ) → None ≡ position (λ (b : CodeBlock). bytes_eq b.label label) a.blocks →
    Traps Unreachable ≡ jump_effect p a label
jumps_nowhere p a label is = ap (arrival p a) (at_first (λ (b : CodeBlock). bytes_eq b.label label) a.blocks None is)
