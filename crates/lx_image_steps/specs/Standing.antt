-- The activation that a running function in code stands for.
use Rattle.std.specs.Prelude.{ℕ, suc, Bool, true, false, Option, Some, None, List, [], ◌∷◌, drop, option_and_then, option_map, reverse, slice_get, unwrap_or}
use Rattle.lx_ir.specs.declared.instr.Op.{Op}
use Rattle.lx_ir.specs.declared.instr.SwitchCase.{SwitchCase}
use Rattle.lx_model.specs.Thread.{CodeBlock, Activation}
use Rattle.lx_model.specs.Effect.{is_phi, without_phis}
use Rattle.lx_images.specs.Image.{Code, image_routine}
use Rattle.lx_image_steps.specs.declared.activation.Activation.{Activation as Running}

-- the block with a number; one without a label and instructions, where there is none
abbrev pub block_or_none : Option CodeBlock → CodeBlock
block_or_none None = record { label = []; code = [] }
block_or_none (Some b) = b

abbrev pub block_at : List CodeBlock → ℕ → CodeBlock
block_at blocks k = block_or_none (slice_get blocks k)

-- what is left of a block's instructions from a place on, without its phis where it was reached by a jump
abbrev pub rest_from : Bool → ℕ → List Op → List Op
rest_from true place code = without_phis (drop place code)
rest_from false place code = drop place code

-- a function that runs, of an image where it is a module's
abbrev pub run_of : Code → Running → Activation
run_of c a =
    record {
      function = a.function;
      blocks = (image_routine c a.function).blocks;
      label = (block_at (image_routine c a.function).blocks a.block).label;
      code = rest_from a.arrived a.place (block_at (image_routine c a.function).blocks a.block).code;
      registers = a.registers.items;
      low = a.low;
      high = a.high;
      allocas = reverse a.allocas.items;
    }

-- the next instruction
abbrev pub head_of : List Op → Option Op
head_of [] = None
head_of (o ∷ os) = Some o

-- what is left from an instruction on that is no phi
abbrev pub behind_found : Bool → ℕ → List Op → Option Op → List Op
behind_found arrived place code None = []
behind_found arrived place code (Some o) = o ∷ rest_from arrived (suc place) code

abbrev pub front_at : Bool → ℕ → List Op → List Op
front_at arrived place code = behind_found arrived place code (slice_get code place)

-- a phi stands at the place
abbrev pub is_phi_in : Option Op → Bool
is_phi_in None = false
is_phi_in (Some o) = is_phi o

abbrev pub phi_at : List Op → ℕ → Bool
phi_at code place = is_phi_in (slice_get code place)

-- what stands at a place, if there is a place
abbrev pub item_at : {A : Type 0} → List A → Option ℕ → Option A
item_at xs place = option_and_then (slice_get xs) place

-- the label of the case at a place, or another one
abbrev pub label_at : List SwitchCase → Option ℕ → List ℕ → List ℕ
label_at cases place otherwise = unwrap_or (option_map (λ c. c.label) (item_at cases place)) otherwise
