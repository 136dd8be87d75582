-- To which block an effect takes control.
use Rattle.std.proofs.Common.{◌≡◌, ℕ, Option, Some, List}
use Rattle.std.specs.Prelude.{bytes_eq, position, slice_get}
use Rattle.lx_model.specs.Thread.{Activation, CodeBlock}
use Rattle.lx_model.specs.Effect.{code_block_named}
use Rattle.lx_image_steps.specs.declared.effect.Effect.{Effect as Found}
use Rattle.lx_image_steps.specs.declared.effect.Effect.TheVariants as found
use Rattle.lx_image_steps.specs.Effects.{Leads, Stays}
use Rattle.lx_image_steps.proofs.Firsts.{at_first}

pub stays : (a : Activation) (label : Option (List ℕ)) (e : Found) → Stays e → Leads a label e
stays a label (found.Jumps k) h = absurd h
stays a label (found.Gives w) h = tt
stays a label (found.Wants w) h = tt
stays a label (found.Enters w) h = tt
stays a label (found.Calls n args) h = tt
stays a label (found.Traps trap) h = tt

pub leads_to : (a : Activation) (label : List ℕ) (k : ℕ) → Some k ≡ position (λ (b : CodeBlock). bytes_eq b.label label) a.blocks → slice_get a.blocks k ≡ code_block_named a.blocks label
leads_to a label k is = at_first (λ (b : CodeBlock). bytes_eq b.label label) a.blocks (Some k) is
