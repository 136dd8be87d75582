-- What the machine that counts a wrapper's actions and the machine that runs its lines have in common.
use Rattle.std.specs.Prelude.{◌≡◌, ℕ, true, false, Option, List, [], ◌∷◌, map, drop, ⊤}
use Rattle.lx_words.specs.Word.{Word}
use Rattle.lx_caps.specs.declared.Principal.{Principal}
use Rattle.lx_ir.specs.declared.instr.Op.{Op}
use Rattle.lx_ir.specs.declared.instr.Op.TheVariants as op
use Rattle.lx_annot.specs.declared.action.Annotation.{Annotation}
use Rattle.lx_model.specs.declared.program.ScriptCall.{ScriptCall}
use Rattle.lx_model.specs.declared.request.Outcome.{Outcome}
use Rattle.lx_model.specs.declared.request.Request.{Request}
use Rattle.lx_model.specs.declared.request.Reply.{Reply}
use Rattle.lx_model.specs.Program.{annotation_or_none}
use Rattle.lx_model.specs.Thread.{Activation, Ending}
use Rattle.lx_model.specs.Next.{has_action}
use Rattle.lx_simulation.proofs.Counted.{Code, Place, AtEnter, AtPre, AtCall, InBody, AtPost, AtLeave, AtRet, ImageFrame as CountedFrame, ImageThread as CountedThread, ImageStep as CountedStep, image_absorb as counted_absorb}
use Rattle.lx_simulation.proofs.Counted.{Runs as CountedRuns, Wraps as CountedWraps, Goes as CountedGoes, Asks as CountedAsks}
use Rattle.lx_simulation.proofs.CountedWorld.{ImageWorld as CountedWorld}
use Rattle.lx_images.specs.Image.{ImageFrame, Runs, Wraps, ImageThread, ImageStep, Goes, Asks, image_absorb}
use Rattle.lx_images.specs.ImageWorld.{ImageWorld}
use Rattle.lx_images.specs.WrapperLines.{Wording, from_post, from_call, from_pre, from_enter}

-- the lines that are left of a wrapper of an annotation at a place
abbrev pub lines_at : Annotation → Wording → Place → List Op
lines_at an w AtEnter = from_enter w an
lines_at an w (AtPre k) = from_pre w an k (drop k an.pre)
lines_at an w AtCall = from_call w an
lines_at an w InBody = from_post w 0 an.post
lines_at an w (AtPost k x) = from_post w k (drop k an.post)
lines_at an w (AtLeave x) = op.Leave w.symbol ∷ op.Ret w.value ∷ []
lines_at an w (AtRet x) = op.Ret w.value ∷ []

-- a frame of both machines
pub data Worded : Type 0 where
  Ran : Activation → Worded
  Wrapped : ℕ → List Word → Place → Wording → Option Word → Worded

-- as the machine that counts has it
abbrev pub counted : Worded → CountedFrame
counted (Ran a) = CountedRuns a
counted (Wrapped n args place w x) = CountedWraps n args place

-- what its call gave, once it has
abbrev pub result_at : Place → Option Word → Option Word
result_at (AtPost k y) x = y
result_at place x = x

-- and as the machine that runs lines has it
abbrev pub lined : Code → Worded → ImageFrame
lined c (Ran a) = Runs a
lined c (Wrapped n args place w x) = Wraps n args (lines_at (annotation_or_none c.program n) w place) (result_at place x)

-- a thread of both machines
pub record Both : Type 0 where
  pub calls : List ScriptCall
  pub ended : List Ending
  pub fuel : ℕ
  pub due : Option Outcome
  pub frames : List Worded
  pub shadow : List Principal

abbrev pub counted_thread : Both → CountedThread
counted_thread b = record { calls = b.calls; ended = b.ended; fuel = b.fuel; due = b.due; frames = map counted b.frames; shadow = b.shadow }

abbrev pub line_thread : Code → Both → ImageThread
line_thread c b = record { calls = b.calls; ended = b.ended; fuel = b.fuel; due = b.due; frames = map (lined c) b.frames; shadow = b.shadow }

-- below the top frame each wrapper is in its body
abbrev pub Waiting : List Worded → Type 0
Waiting [] = ⊤
Waiting (Ran a ∷ ws) = Waiting ws
Waiting (Wrapped n args InBody w x ∷ ws) = Waiting ws
Waiting (Wrapped n args place w x ∷ ws) = ⊥

-- on top it stands before its enter, before an action, or behind its body
abbrev pub StandsOnTop : Code → ℕ → Place → Type 0
StandsOnTop c n AtEnter = ⊤
StandsOnTop c n (AtPre k) = has_action c.program n false k ≡ true
StandsOnTop c n (AtPost k x) = ⊤
StandsOnTop c n _ = ⊥

abbrev pub Placed : Code → List Worded → Type 0
Placed c [] = ⊤
Placed c (Ran a ∷ ws) = Waiting ws
Placed c (Wrapped n args place w x ∷ ws) = StandsOnTop c n place × Waiting ws

-- two threads that are one
pub record Alike (c : Code) (v : CountedThread) (u : ImageThread) : Type 0 where
  pub both : Both
  pub placed : Placed c both.frames
  pub counts : v ≡ counted_thread both
  pub reads : u ≡ line_thread c both

-- both take each reply to a request in alike
abbrev pub AbsorbAlike : Code → CountedThread → ImageThread → Request → Type 0
AbsorbAlike c v u r = (t : ℕ) (reply : Reply) → Alike c (counted_absorb c t v r reply) (image_absorb c t u r reply)

-- both take a register step, or ask for the same
abbrev pub StepsAlike : Code → CountedStep → ImageStep → Type 0
StepsAlike c (CountedGoes v) (Goes u) = Alike c v u
StepsAlike c (CountedAsks v r) (Asks u s) = (s ≡ r) × AbsorbAlike c v u r
StepsAlike c _ _ = ⊥

-- worlds that share the same, each of whose threads are alike
abbrev pub AllAlike : Code → List CountedThread → List ImageThread → Type 0
AllAlike c [] [] = ⊤
AllAlike c (v ∷ vs) (u ∷ us) = Alike c v u × AllAlike c vs us
AllAlike c _ _ = ⊥

pub record WorldsAlike (c : Code) (v : CountedWorld) (u : ImageWorld) : Type 0 where
  pub state : u.state ≡ v.state
  pub threads : AllAlike c v.threads u.threads
