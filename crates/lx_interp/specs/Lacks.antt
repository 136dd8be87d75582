-- At which of its register steps a runner may want memory.
use Rattle.std.specs.Prelude.{◌≡◌, ℕ, ◌<◌, ◌≤◌, false, true, IsTrue, IsSome, List, Option, Some, None, drop, find, ⊤}
use Rattle.lx_ir.specs.declared.instr.Op.{Op}
use Rattle.lx_ir.specs.declared.instr.Op.TheVariants as op
use Rattle.lx_model.specs.declared.program.Program.{Program}
use Rattle.lx_model.specs.Thread.{Activation, CodeBlock}
use Rattle.lx_model.specs.Effect.{code_block_named, is_phi}
use Rattle.lx_model.specs.Next.{has_action}
use Rattle.lx_images.specs.Image.{Code}
use Rattle.lx_image_code.specs.declared.line.Line.{Line}
use Rattle.lx_image_code.specs.declared.line.Line.TheVariants as line
use Rattle.lx_image_code.specs.Wrappers.{first_op, line_of, wrapper_lines}
use Rattle.lx_image_steps.specs.Effects.{label_after}
use Rattle.lx_image_steps.specs.Next.{IsNext}
use Rattle.lx_image_steps.specs.Standing.{block_at, head_of, run_of}
use Rattle.lx_image_steps.specs.declared.activation.Activation.{Activation as Running}
use Rattle.lx_image_steps.specs.declared.effect.Effect.{Effect as Found}
use Rattle.lx_image_steps.specs.declared.effect.Effect.TheVariants as found
use Rattle.lx_image_steps.specs.declared.next.Step.{Step}
use Rattle.lx_frames.specs.declared.frame.Frame.{Frame as KeptFrame}
use Rattle.lx_frames.specs.declared.frame.Frame.TheVariants as kept
use Rattle.lx_frames.specs.Frames.{running_on}
use Rattle.lx_frames.specs.Stack.{takes_room}
use Rattle.lx_interp.specs.declared.runner.Runner.{Runner}

-- the block with this number has phis, whose words are kept until all are found
abbrev pub HasPhis : Activation → ℕ → Type 0
HasPhis a k = IsSome (find is_phi (block_at a.blocks k).code)

-- so it is of a block that was looked for
abbrev pub HasPhisIn : Option CodeBlock → Type 0
HasPhisIn None = ⊥
HasPhisIn (Some b) = IsSome (find is_phi b.code)

-- and of the block that a label names
abbrev pub GoesToPhis : Activation → Option (List ℕ) → Type 0
GoesToPhis a None = ⊥
GoesToPhis a (Some label) = HasPhisIn (code_block_named a.blocks label)

-- an instruction may want memory: a call for its arguments, an `alloca` for the place of its bytes, and a jump to a block with phis for
-- their words
abbrev pub OpLacks : Program → Activation → Option Op → Type 0
OpLacks p a None = ⊥
OpLacks p a (Some (op.Call to ret callee args)) = ⊤
OpLacks p a (Some (op.Alloca to ty)) = ⊤
OpLacks p a (Some o) = GoesToPhis a (label_after p a o)

-- a wrapper of this function, at this place and line, may want memory: for an action that the function has, and where it leaves and no
-- number counts the line behind
abbrev pub LineLacks : Program → ℕ → ℕ → Line → Type 0
LineLacks p n at (line.Pre k) = IsTrue (has_action p n false k)
LineLacks p n at (line.Post k) = IsTrue (has_action p n true k)
LineLacks p n at line.Leave = 18446744073709551615 ≤ at
LineLacks p n at l = ⊥

-- the step of the frame on top, with so much fuel left; without a frame that is the start of a script's call, which keeps the arguments
abbrev pub TopLacks : Code → ℕ → Option KeptFrame → Type 0
TopLacks c fuel None = 0 < fuel
TopLacks c fuel (Some (kept.Runs run)) = (0 < fuel) × OpLacks c.program (run_of c run) (head_of (run_of c run).code)
TopLacks c fuel (Some (kept.Wraps n args wrapper at x)) = LineLacks c.program n at (line_of (first_op (drop at (wrapper_lines c wrapper))))

-- the next step of the runner may want memory: no outcome is due, and the frame on top stands where one may
pub record MayLack (c : Code) (r : Runner) : Type 0 where
  pub undue : r.due ≡ None
  pub lacks : TopLacks c r.fuel r.stack.top

-- of what a function on top comes to

-- its next instruction may want memory
abbrev pub RunLacks : Code → Option KeptFrame → Type 0
RunLacks c top = (run : Running) → running_on top ≡ Some run → OpLacks c.program (run_of c run) (head_of (run_of c run).code)

-- this is found of it
abbrev pub NextOn : Code → Option KeptFrame → Option Step → Type 0
NextOn c top s = (run : Running) → running_on top ≡ Some run → IsNext c (run_of c run) (head_of (run_of c run).code) s

-- an effect may want memory
abbrev pub FoundLacks : Activation → Found → Type 0
FoundLacks a (found.Jumps k) = HasPhis a k
FoundLacks a (found.Wants w) = IsTrue (takes_room w)
FoundLacks a (found.Enters w) = ⊤
FoundLacks a (found.Calls n args) = ⊤
FoundLacks a e = ⊥

abbrev pub FoundLacksOn : Code → Option KeptFrame → Found → Type 0
FoundLacksOn c top e = (run : Running) → running_on top ≡ Some run → FoundLacks (run_of c run) e
