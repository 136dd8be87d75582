-- What is found of the next instruction.
use Rattle.std.specs.Prelude.{◌≡◌, Bool, false, Option, Some, None}
use Rattle.lx_ir.specs.declared.instr.Op.{Op}
use Rattle.lx_model.specs.Thread.{Activation}
use Rattle.lx_model.specs.Effect.{effect, text_of}
use Rattle.lx_images.specs.Image.{wrapper_args}
use Rattle.lx_images.specs.Code.{Code, wrapped_import}
use Rattle.lx_images.specs.Wrappers.{called_lines}
use Rattle.lx_image_code.specs.Wrappers.{wrapper_lines}
use Rattle.lx_image_steps.specs.Effects.{effect_of, is_call, label_after, Leads}
use Rattle.lx_image_steps.specs.declared.next.Step.{Step}
use Rattle.lx_image_steps.specs.declared.next.Step.TheVariants as step

-- what an instruction does: it calls the wrapper of this function, with these arguments and of these lines, or it calls none and has this effect,
-- which takes control to the block that the instruction names, and to none where it names none
abbrev pub IsStep : Code → Activation → Op → Step → Type 0
IsStep c a o (step.Crosses n args wrapper) =
    (wrapped_import c (text_of c.program a) o ≡ Some n) × (args ≡ wrapper_args c a o) × (wrapper_lines c wrapper ≡ called_lines c (text_of c.program a) o)
IsStep c a o (step.Does e) = (wrapped_import c (text_of c.program a) o ≡ None) × (effect_of c.program a e ≡ effect c.program a o) × Leads a (label_after c.program a o) e

-- and of the next instruction, if there is one
abbrev pub IsNext : Code → Activation → Option Op → Option Step → Type 0
IsNext c a next None = next ≡ None
IsNext c a next (Some s) = (o : Op) × (next ≡ Some o) × IsStep c a o s

-- the next instruction is a call
abbrev pub calls_next : Option Op → Bool
calls_next None = false
calls_next (Some o) = is_call o
