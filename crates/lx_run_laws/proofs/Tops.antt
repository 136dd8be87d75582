-- Acts are asked for in the name of the principal on top of the thread's stack.
use Rattle.std.proofs.Common.{◌≡◌, ℕ, zero, suc, ◌+◌, ◌*◌, Bool, true, false, Option, Some, None, List, [], ◌∷◌, length, refl, sym, subst}
use Rattle.lx_words.specs.Word.{Word}
use Rattle.lx_caps.specs.declared.Principal.{Principal}
use Rattle.lx_caps.specs.declared.Principal.TheVariants.{Kernel}
use Rattle.lx_ir.specs.declared.instr.Op.{Op}
use Rattle.lx_model.specs.declared.program.Program.{Program}
use Rattle.lx_model.specs.declared.program.ScriptCall.{ScriptCall}
use Rattle.lx_model.specs.declared.request.Outcome.{Outcome}
use Rattle.lx_model.specs.declared.request.Outcome.TheVariants.{Trapped, Budget}
use Rattle.lx_model.specs.declared.request.Trap.TheVariants.{TooDeep, Unreachable}
use Rattle.lx_model.specs.declared.request.Request.{Request}
use Rattle.lx_model.specs.declared.request.Way.TheVariants.{Script}
use Rattle.lx_model.specs.declared.request.What.{What}
use Rattle.lx_model.specs.declared.request.What.TheVariants as what
use Rattle.lx_model.specs.Effect.{Effect, Moves, Wants, Enters, Calls, Traps, effect}
use Rattle.lx_model.specs.Next.{Asking, Step, Goes, Asks, due_or, effect_step, frame_step, has_action, has_room, if_paid, if_room, instruction_step, next, next_within, post_action, post_step, pre_action, request, stage_step, start_step, step, undue_step}
use Rattle.lx_model.specs.Thread.{Crossing, Ending, Frame, Stage, Pre, Body, Post, Thread}
use Rattle.lx_run_laws.specs.Authorised.{is_act, IsOnTop, AsksAsTop}

abbrev StepAsTop : Step → Type 0
StepAsTop (Goes x) = Unit {0}
StepAsTop (Asks x r) = AsksAsTop x.frames r

-- what is no act
ended : (frames : List Frame) (who : Principal) (o : Outcome) → AsksAsTop frames (request who (what.Finish o))
ended frames who o act = absurd (cc)

performed : (frames : List Frame) (r : Request) → is_act r.what ≡ false → AsksAsTop frames r
performed frames r none act = absurd (cc)

roomed : (b : Bool) (x : Thread) (s : Step) → StepAsTop s → StepAsTop (if_room b x s)
roomed true x s h = h
roomed false x s h = ended [] Kernel (Trapped TooDeep)

own : (f : Frame) (fs frames : List Frame) (w : What) → frames ≡ f ∷ fs → AsksAsTop frames (request f.principal w)
own f fs frames w is act = subst (IsOnTop f.principal) (sym is) refl

effected : (p : Program) (t : ℕ) (x : Thread) (f : Frame) (fs : List Frame) (e : Effect) → x.frames ≡ f ∷ fs → StepAsTop (effect_step p t x f fs e)
effected p t x f fs (Moves a) is = tt
effected p t x f fs (Wants w) is = own f fs x.frames w is
effected p t x f fs (Enters w) is = roomed (has_room (f ∷ fs)) x _ (own f fs x.frames w is)
effected p t x f fs (Calls n args) is = roomed (has_room (f ∷ fs)) x _ tt
effected p t x f fs (Traps trap) is = ended [] Kernel (Trapped trap)

instructed : (p : Program) (t : ℕ) (f : Frame) (fs : List Frame) (os : List Op) (x : Thread) → x.frames ≡ f ∷ fs → StepAsTop (instruction_step p t f fs os x)
instructed p t f fs [] x is = ended [] Kernel (Trapped Unreachable)
instructed p t f fs (o ∷ os) x is = effected p t x f fs (effect p f.run o) is

-- a step that costs a unit
paid : (calls : List ScriptCall) (over : List Ending) (fuel : ℕ) (due : Option Outcome) (frames : List Frame) (go : Thread → Step)
    → ((n : ℕ) → StepAsTop (go (record { calls = calls; ended = over; fuel = n; due = due; frames = frames })))
    → StepAsTop (if_paid (record { calls = calls; ended = over; fuel = fuel; due = due; frames = frames }) go)
paid calls over zero due frames go h = ended [] Kernel Budget
paid calls over (suc n) due frames go h = h n

ran : (p : Program) (t : ℕ) (f : Frame) (fs : List Frame) (x : Thread) → x.frames ≡ f ∷ fs → StepAsTop (if_paid x (instruction_step p t f fs f.run.code))
ran p t f fs x is = paid x.calls x.ended x.fuel x.due x.frames (instruction_step p t f fs f.run.code) (λ n. instructed p t f fs f.run.code _ is)

asked : (r : Request) (x : Thread) → is_act r.what ≡ false → StepAsTop (if_paid x (λ poorer. Asks poorer r))
asked r x none = paid x.calls x.ended x.fuel x.due x.frames (λ poorer. Asks poorer r) (λ n. performed x.frames r none)

posted : (b : Bool) (f : Frame) (fs : List Frame) (c : Crossing) (k : ℕ) (v : Option Word) (x : Thread) → StepAsTop (post_step b f fs c k v x)
posted true f fs c k v x = asked (post_action f c k v) x refl
posted false f fs c k v x = tt

staged : (p : Program) (t : ℕ) (f : Frame) (fs : List Frame) (c : Crossing) (s : Stage) (x : Thread) → x.frames ≡ f ∷ fs → StepAsTop (stage_step p t f fs c s x)
staged p t f fs c (Pre k) x is = asked (pre_action f c k) x refl
staged p t f fs c Body x is = ran p t f fs x is
staged p t f fs c (Post k v) x is = posted (has_action p c.function true k) f fs c k v x

framed : (p : Program) (t : ℕ) (f : Frame) (fs : List Frame) (c : Option Crossing) (x : Thread) → x.frames ≡ f ∷ fs → StepAsTop (frame_step p t f fs c x)
framed p t f fs None x is = ran p t f fs x is
framed p t f fs (Some c) x is = staged p t f fs c c.stage x is

started : (cs : List ScriptCall) (x : Thread) → StepAsTop (start_step cs x)
started [] x = ended [] Kernel Budget
started (c ∷ cs) x = asked (request Kernel (what.Enter (Script c.function) c.args)) x refl

undue_top : (p : Program) (t : ℕ) (frames : List Frame) (x : Thread) → x.frames ≡ frames → StepAsTop (undue_step p t frames x)
undue_top p t [] x is = started x.calls x
undue_top p t (f ∷ fs) x is = framed p t f fs f.crossing x is

due_top : (due : Option Outcome) (x : Thread) (s : Step) → StepAsTop s → StepAsTop (due_or due x s)
due_top None x s h = h
due_top (Some o) x s h = ended x.frames Kernel o

step_top : (p : Program) (t : ℕ) (x : Thread) → StepAsTop (step p t x)
step_top p t x = due_top x.due x (undue_step p t x.frames x) (undue_top p t x.frames x refl)

abbrev AskingAsTop : Asking → Type 0
AskingAsTop a = AsksAsTop a.thread.frames a.request

goes_on : (n : ℕ) (p : Program) (t : ℕ) (s : Step) → StepAsTop s → ((more : Thread) → AskingAsTop (next_within n p t more))
    → AskingAsTop (elim s [ Goes more ↦ next_within n p t more | Asks more r ↦ record { thread = more; request = r } ])
goes_on n p t (Goes more) h k = k more
goes_on n p t (Asks more r) h k = h

within_top : (n : ℕ) (p : Program) (t : ℕ) (x : Thread) → AskingAsTop (next_within n p t x)
within_top zero p t x = ended x.frames Kernel Budget
within_top (suc n) p t x = goes_on n p t (step p t x) (step_top p t x) (λ more. within_top n p t more)

pub next_top : (p : Program) (t : ℕ) (x : Thread) → AsksAsTop (next p t x).thread.frames (next p t x).request
next_top p t x = within_top (2 * x.fuel + length x.frames + 1) p t x
