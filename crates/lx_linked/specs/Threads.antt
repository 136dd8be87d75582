-- Threads whose functions run at places of their texts, on words as wide as their types.
use Rattle.std.specs.Prelude.{◌≡◌, ℕ, ◌<◌, ◌≤◌, Bool, true, false, ◌||◌, All, Option, Some, None, List, [], ◌∷◌, map, drop, take, length, nat_lt, slice_get, option_map, option_and_then, ⊤}
use Rattle.lx_words.specs.declared.word.Width.{Width}
use Rattle.lx_ir.specs.declared.types.Scalar.{Scalar}
use Rattle.lx_ir.specs.declared.module.Block.{Block}
use Rattle.lx_ir.specs.declared.module.Function.{Function}
use Rattle.lx_ir.specs.declared.instr.Argument.{Argument}
use Rattle.lx_ir.specs.declared.instr.Callee.{Callee}
use Rattle.lx_ir.specs.declared.instr.Op.{Op}
use Rattle.lx_ir.specs.declared.instr.Op.TheVariants as op
use Rattle.lx_ir.specs.Layout.{width_of}
use Rattle.lx_ir.specs.Lookup.{blocks_of}
use Rattle.lx_ir.specs.Operands.{register_count, register_types}
use Rattle.lx_ir.specs.Faults.{Walk, assigns, instrs_at, walk_assigns}
use Rattle.lx_model.specs.declared.program.Program.{Program}
use Rattle.lx_model.specs.Program.{function_of, result_width}
use Rattle.lx_model.specs.Thread.{Activation, Stage, Pre, Body, Post, Crossing, Frame, Thread, code_block_of, register}
use Rattle.lx_model.specs.Effect.{text_of}
use Rattle.lx_model.specs.Enter.{text_of_principal}
use Rattle.lx_model.specs.Next.{actions_of}
use Rattle.lx_model.specs.Fits.{FitsFunction, FitsPrincipal, FitsResult, FitsStack}
use Rattle.lx_link_texts.specs.WellFormed.{FitsCall}

-- the register has a value: it is a parameter, or was given on the walk to the block, or in the block before this place
abbrev pub has_value : Function → List ℕ → ℕ → ℕ → ℕ → Bool
has_value g walk block place r = nat_lt r (length g.params) || (walk_assigns g walk r || assigns (take place (instrs_at g block)) r)

-- the name of a block, or none where there is no block
abbrev pub name_of_block : Option Block → List ℕ
name_of_block None = []
name_of_block (Some b) = b.name

-- the function is at a place of its text, to which a walk from its start comes, and each register that has a value there has a word as
-- wide as its type
pub record RunsAt (g : Function) (a : Activation) : Type 0 where
  pub block : ℕ
  pub place : ℕ
  pub walk : List ℕ
  pub comes : Walk g walk block
  pub blocks : a.blocks ≡ map code_block_of (blocks_of g)
  pub label : a.label ≡ name_of_block (slice_get (blocks_of g) block)
  pub code : a.code ≡ map (λ i. i.op) (drop place (instrs_at g block))
  pub many : register_count g ≤ length a.registers
  pub widths : (r : ℕ) (ty : Scalar) → slice_get (register_types g) r ≡ Some ty → has_value g walk block place r ≡ true → (register a r).width ≡ width_of ty

-- so it is with the function that runs
abbrev pub Runs : Program → Activation → Type 0
Runs p a = (g : Function) × (function_of p a.function ≡ Some g) × RunsAt g a

-- the width of a function's result
abbrev pub result_of : Program → ℕ → Option Width
result_of p n = option_and_then result_width (function_of p n)

-- the next instruction is a call, and expects a result of this width
abbrev pub Expects : Option Width → List Op → Type 0
Expects w code =
    (to : Option ℕ) × (ret : Option Scalar) × (callee : Callee) × (args : List Argument) × (os : List Op) × (code ≡ op.Call to ret callee args ∷ os)
    × (option_map width_of ret ≡ w)

-- a crossing before an action, in its body, or behind it with a result as wide as the function's
abbrev pub StageFits : Program → Activation → ℕ → Stage → Type 0
StageFits p a n (Pre k) = (k < length (actions_of p n false)) × Runs p a
StageFits p a n Body = Runs p a
StageFits p a n (Post k v) = FitsResult p n true v

-- a crossing is of the function that runs, from a principal that is there, with arguments that fit
abbrev pub CrossingFits : Program → Activation → Option Crossing → Type 0
CrossingFits p a None = Runs p a
CrossingFits p a (Some c) = (c.function ≡ a.function) × FitsPrincipal p c.source × FitsFunction p c.function c.args × StageFits p a c.function c.stage

-- the function with this number was called by the frame below it, if there is one
abbrev pub Waits : Program → ℕ → List Frame → Type 0
Waits p n [] = ⊤
Waits p n (f ∷ fs) = Runs p f.run × Expects (result_of p n) f.run.code

-- a function runs as a principal of its text, on its thread's stack
pub record FrameFits (p : Program) (t : ℕ) (f : Frame) (fs : List Frame) : Type 0 where
  pub text : text_of_principal f.principal ≡ text_of p f.run
  pub stack : FitsStack t f.run.low f.run.high
  pub crossing : CrossingFits p f.run f.crossing
  pub below : Waits p f.run.function fs

-- each frame of a thread does
abbrev pub FramesFit : Program → ℕ → List Frame → Type 0
FramesFit p t [] = ⊤
FramesFit p t (f ∷ fs) = FrameFits p t f fs × FramesFit p t fs

-- one of sixteen threads, whose calls and frames fit
pub record ThreadFits (p : Program) (t : ℕ) (thread : Thread) : Type 0 where
  pub few : t < 16
  pub calls : All (FitsCall p) thread.calls
  pub frames : FramesFit p t thread.frames
