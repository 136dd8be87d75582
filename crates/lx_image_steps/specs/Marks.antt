-- Guards and checks, and what they leave for the next instruction.
use Rattle.std.specs.Prelude.{◌≡◌, ℕ, Bool, false, ◌&&◌, cond, Option, Some, None, List, IfSome}
use Rattle.lx_ir.specs.declared.instr.Op.{Op}
use Rattle.lx_ir.specs.declared.instr.Op.TheVariants as op
use Rattle.lx_model.specs.declared.program.Program.{Program}
use Rattle.lx_model.specs.declared.request.Outcome.TheVariants.{Trapped}
use Rattle.lx_model.specs.declared.request.Trap.TheVariants.{Unreachable}
use Rattle.lx_model.specs.Thread.{Activation}
use Rattle.lx_model.specs.Effect.{bits, is_phi, text_of}
pub use Rattle.lx_image_texts.specs.Marks.{is_mark}
use Rattle.lx_images.specs.Image.{Code, ImageFrame, ImageStep, ImageThread, Marks, comes_to, costly_step, if_paid, instruction_step, no_marks, wrapped_import}
use Rattle.lx_image_steps.specs.Standing.{head_of, run_of}
use Rattle.lx_image_steps.specs.declared.activation.Activation.{Activation as Running}

-- the marks behind a guard or a check; none, where the instruction is another one
abbrev pub marks_set : Program → Activation → Marks → Op → Option Marks
marks_set p a m (op.Guard at size narrow) = Some (record m { guarded = Some (bits p a at, bits p a size) })
marks_set p a m (op.Check target) = Some (record m { checked = Some (bits p a target) })
marks_set p a m _ = None

-- the marks behind an instruction that is gone past without a step: a guard, a check, or a phi where a jump led to its block
abbrev pub marks_behind : Program → Activation → Bool → Marks → Op → Option Marks
marks_behind p a arrived m o = cond (arrived && is_phi o) (Some m) (marks_set p a m o)

-- a step that costs a unit: of an instruction, or of a block that has come to its end
abbrev pub plain_step : Code → ImageThread → List ImageFrame → Marks → Activation → Option Op → ImageStep
plain_step c v fs m a None = if_paid v (comes_to (Trapped Unreachable))
plain_step c v fs m a (Some o) = if_paid v (costly_step c m a fs o (wrapped_import c (text_of c.program a) o))

-- with these marks, one activation has the step that another one has without any
abbrev pub StepsAs : Code → Activation → Marks → Activation → Type 0
StepsAs c before m a = (v : ImageThread) → (fs : List ImageFrame) → instruction_step c v fs before.code no_marks before ≡ instruction_step c v fs a.code m a

-- the function that runs, at another place of its block
abbrev pub moved : Code → Running → ℕ → Activation
moved c r place = run_of c (record r { place = place })

-- the next instruction is neither a guard nor a check
abbrev pub StandsPlain : Activation → Type 0
StandsPlain a = IfSome (head_of a.code) (λ o. is_mark o ≡ false)
