-- What an effect in code means.
use Rattle.std.specs.Prelude.{◌≡◌, ℕ, Bool, true, false, Option, Some, None, List, slice_get, ⊤}
use Rattle.lx_ir.specs.declared.instr.Op.{Op}
use Rattle.lx_ir.specs.declared.instr.Op.TheVariants as op
use Rattle.lx_model.specs.declared.program.Program.{Program}
use Rattle.lx_model.specs.Thread.{Activation}
use Rattle.lx_model.specs.Effect.{Effect, Moves, Wants, Enters, Calls, Traps, value_effect, arrival, bits, choice, chosen_label, code_block_named}
use Rattle.lx_model.specs.declared.request.Trap.TheVariants.{Unreachable}
use Rattle.lx_image_steps.specs.declared.effect.Effect.{Effect as Found}
use Rattle.lx_image_steps.specs.declared.effect.Effect.TheVariants as found

-- the effect on an activation
abbrev pub effect_of : Program → Activation → Found → Effect
effect_of p a (found.Gives w) = value_effect a w
effect_of p a (found.Jumps k) = arrival p a (slice_get a.blocks k)
effect_of p a (found.Wants w) = Wants w
effect_of p a (found.Enters w) = Enters w
effect_of p a (found.Calls n args) = Calls n args
effect_of p a (found.Traps trap) = Traps trap

-- what a jump comes to: the function goes on, or there is no such block
abbrev pub arrived_as : Bool → Activation → Effect
arrived_as true a = Moves a
arrived_as false a = Traps Unreachable

-- the label that an instruction takes control to
abbrev pub label_after : Program → Activation → Op → Option (List ℕ)
label_after p a (op.Jump label) = Some label
label_after p a (op.Branch test first second) = Some (choice (bits p a test) first second)
label_after p a (op.Switch ty v otherwise cases) = Some (chosen_label p a (bits p a v) otherwise cases)
label_after p a _ = None

-- the block with this number is the one that the label names
abbrev pub IsBlockOf : Activation → Option (List ℕ) → ℕ → Type 0
IsBlockOf a None k = ⊥
IsBlockOf a (Some label) k = slice_get a.blocks k ≡ code_block_named a.blocks label

-- where an effect takes control to a block, it is the one that the label names; without a label it takes it to none
abbrev pub Leads : Activation → Option (List ℕ) → Found → Type 0
Leads a label (found.Jumps k) = IsBlockOf a label k
Leads a label _ = ⊤

-- an effect takes control to no block
abbrev pub Stays : Found → Type 0
Stays (found.Jumps k) = ⊥
Stays _ = ⊤

-- a call, whose arguments take memory
abbrev pub is_call : Op → Bool
is_call (op.Call to ret callee args) = true
is_call _ = false
