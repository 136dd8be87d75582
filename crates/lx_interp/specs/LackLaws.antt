-- Where a runner wants no memory.
use Rattle.std.specs.Prelude.{◌≡◌, ℕ, ◌<◌, Bool, true, false, List, [], ◌∷◌, Option, Some, None, find}
use Rattle.lx_words.specs.declared.word.BinOp.{BinOp}
use Rattle.lx_ir.specs.declared.types.Scalar.{Scalar}
use Rattle.lx_ir.specs.declared.module.Value.{Value}
use Rattle.lx_ir.specs.declared.instr.Argument.{Argument}
use Rattle.lx_ir.specs.declared.instr.Op.{Op}
use Rattle.lx_ir.specs.declared.instr.Op.TheVariants as op
use Rattle.lx_model.specs.declared.program.Program.{Program}
use Rattle.lx_model.specs.declared.request.Outcome.{Outcome}
use Rattle.lx_model.specs.Thread.{Activation, CodeBlock}
use Rattle.lx_model.specs.Effect.{is_phi}
use Rattle.lx_model.specs.Next.{has_action}
use Rattle.lx_images.specs.Image.{Code}
use Rattle.lx_image_code.specs.declared.line.Line.TheVariants as line
use Rattle.lx_image_steps.specs.declared.activation.Activation.{Activation as Running}
use Rattle.lx_frames.specs.declared.frame.Frame.TheVariants.{Runs}
use Rattle.lx_interp.specs.declared.runner.Runner.{Runner}
use Rattle.lx_interp.specs.Lacks.{LineLacks, MayLack, OpLacks}

-- the instruction wants no memory, wherever it stands
abbrev pub WantsNone : Op → Type 0
WantsNone o = (p : Program) (a : Activation) → OpLacks p a (Some o) → ⊥

pub record LackLaws : Type 0 where
  pub binary : (to : ℕ) (o : BinOp) (ty : Scalar) (x y : Value) → WantsNone (op.Binary to o ty x y)
  pub load : (to : ℕ) (ty : Scalar) (at : Value) → WantsNone (op.Load to ty at)
  pub store : (ty : Scalar) (v at : Value) → WantsNone (op.Store ty v at)
  pub copy : (moves : Bool) (dest source : Value) (len : Argument) → WantsNone (op.CopyBlock moves dest source len)
  pub fill : (dest byte : Value) (len : Argument) → WantsNone (op.FillBlock dest byte len)
  pub ret : (v : Option Argument) → WantsNone (op.Ret v)
  -- nor does a jump to the only block, which has no phis
  pub jump : (p : Program) (a : Activation) (b : CodeBlock) → a.blocks ≡ b ∷ [] → find is_phi b.code ≡ None → OpLacks p a (Some (op.Jump b.label)) → ⊥
  -- nor does a wrapper that returns, that leaves at a line before the last number, or that comes to an action that the function has not
  pub returns : (p : Program) (n at : ℕ) → LineLacks p n at line.Ret → ⊥
  pub leaves : (p : Program) (n at : ℕ) → at < 18446744073709551615 → LineLacks p n at line.Leave → ⊥
  pub acts : (p : Program) (n at k : ℕ) → has_action p n false k ≡ false → LineLacks p n at (line.Pre k) → ⊥
  pub acts_behind : (p : Program) (n at k : ℕ) → has_action p n true k ≡ false → LineLacks p n at (line.Post k) → ⊥
  -- nor does a call that has come to its outcome, nor a function without fuel
  pub ended : (c : Code) (r : Runner) (outcome : Outcome) → r.due ≡ Some outcome → MayLack c r → ⊥
  pub unpaid : (c : Code) (r : Runner) (run : Running) → r.stack.top ≡ Some (Runs run) → r.fuel ≡ 0 → MayLack c r → ⊥
