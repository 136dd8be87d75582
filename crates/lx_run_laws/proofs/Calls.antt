-- Register steps leave a thread's calls, those that are left and those that have ended.
use Rattle.std.proofs.Common.{◌≡◌, ℕ, zero, suc, ◌+◌, ◌*◌, Bool, true, false, Option, Some, None, List, [], ◌∷◌, length, refl}
use Rattle.lx_words.specs.Word.{Word}
use Rattle.lx_caps.specs.declared.Principal.TheVariants.{Kernel}
use Rattle.lx_ir.specs.declared.instr.Op.{Op}
use Rattle.lx_model.specs.declared.program.Program.{Program}
use Rattle.lx_model.specs.declared.program.ScriptCall.{ScriptCall}
use Rattle.lx_model.specs.declared.request.Outcome.{Outcome}
use Rattle.lx_model.specs.declared.request.Request.{Request}
use Rattle.lx_model.specs.declared.request.Way.TheVariants.{Script}
use Rattle.lx_model.specs.declared.request.What.TheVariants as what
use Rattle.lx_model.specs.Effect.{Effect, Moves, Wants, Enters, Calls, Traps, effect}
use Rattle.lx_model.specs.Next.{Asking, Step, Goes, Asks, after_leaving, due_or, effect_step, frame_step, has_action, has_room, if_paid, if_room, instruction_step, next, next_within, post_action, post_step, pre_action, request, stage_step, start_step, step, undue_step}
use Rattle.lx_model.specs.Thread.{Crossing, Ending, Frame, Stage, Pre, Body, Post, Thread}

abbrev pub Has : List ScriptCall → List Ending → Thread → Type 0
Has calls over x = (x.calls ≡ calls) × (x.ended ≡ over)

abbrev StepHas : List ScriptCall → List Ending → Step → Type 0
StepHas calls over (Goes x) = Has calls over x
StepHas calls over (Asks x r) = Has calls over x

roomed : (calls : List ScriptCall) (over : List Ending) (b : Bool) (x : Thread) (s : Step) → Has calls over x → StepHas calls over s → StepHas calls over (if_room b x s)
roomed calls over true x s h k = k
roomed calls over false x s h k = h

effected : (calls : List ScriptCall) (over : List Ending) (p : Program) (t : ℕ) (x : Thread) (f : Frame) (fs : List Frame) (e : Effect) → Has calls over x → StepHas calls over (effect_step p t x f fs e)
effected calls over p t x f fs (Moves a) h = h
effected calls over p t x f fs (Wants w) h = h
effected calls over p t x f fs (Enters w) h = roomed calls over (has_room (f ∷ fs)) x _ h h
effected calls over p t x f fs (Calls n args) h = roomed calls over (has_room (f ∷ fs)) x _ h h
effected calls over p t x f fs (Traps trap) h = h

instructed : (calls : List ScriptCall) (over : List Ending) (p : Program) (t : ℕ) (f : Frame) (fs : List Frame) (os : List Op) (x : Thread) → Has calls over x → StepHas calls over (instruction_step p t f fs os x)
instructed calls over p t f fs [] x h = h
instructed calls over p t f fs (o ∷ os) x h = effected calls over p t x f fs (effect p f.run o) h

-- a step that costs a unit
paid : (calls : List ScriptCall) (over : List Ending) (cs : List ScriptCall) (es : List Ending) (fuel : ℕ) (due : Option Outcome) (frames : List Frame) (go : Thread → Step)
    → (cs ≡ calls) × (es ≡ over) → ((n : ℕ) → StepHas calls over (go (record { calls = cs; ended = es; fuel = n; due = due; frames = frames })))
    → StepHas calls over (if_paid (record { calls = cs; ended = es; fuel = fuel; due = due; frames = frames }) go)
paid calls over cs es zero due frames go h k = h
paid calls over cs es (suc n) due frames go h k = k n

ran : (calls : List ScriptCall) (over : List Ending) (p : Program) (t : ℕ) (f : Frame) (fs : List Frame) (x : Thread) → Has calls over x
    → StepHas calls over (if_paid x (instruction_step p t f fs f.run.code))
ran calls over p t f fs x h =
    paid calls over x.calls x.ended x.fuel x.due x.frames (instruction_step p t f fs f.run.code) h (λ n. instructed calls over p t f fs f.run.code _ h)

-- a request that is paid for
asked : (calls : List ScriptCall) (over : List Ending) (r : Request) (x : Thread) → Has calls over x → StepHas calls over (if_paid x (λ poorer. Asks poorer r))
asked calls over r x h = paid calls over x.calls x.ended x.fuel x.due x.frames (λ poorer. Asks poorer r) h (λ n. h)

left : (calls : List ScriptCall) (over : List Ending) (v : Option Word) (fs : List Frame) (x : Thread) → Has calls over x → Has calls over (after_leaving v fs x)
left calls over v [] x h = h
left calls over v (f ∷ fs) x h = h

posted : (calls : List ScriptCall) (over : List Ending) (b : Bool) (f : Frame) (fs : List Frame) (c : Crossing) (k : ℕ) (v : Option Word) (x : Thread) → Has calls over x
    → StepHas calls over (post_step b f fs c k v x)
posted calls over true f fs c k v x h = asked calls over (post_action f c k v) x h
posted calls over false f fs c k v x h = left calls over v fs x h

staged : (calls : List ScriptCall) (over : List Ending) (p : Program) (t : ℕ) (f : Frame) (fs : List Frame) (c : Crossing) (s : Stage) (x : Thread) → Has calls over x
    → StepHas calls over (stage_step p t f fs c s x)
staged calls over p t f fs c (Pre k) x h = asked calls over (pre_action f c k) x h
staged calls over p t f fs c Body x h = ran calls over p t f fs x h
staged calls over p t f fs c (Post k v) x h = posted calls over (has_action p c.function true k) f fs c k v x h

framed : (calls : List ScriptCall) (over : List Ending) (p : Program) (t : ℕ) (f : Frame) (fs : List Frame) (c : Option Crossing) (x : Thread) → Has calls over x
    → StepHas calls over (frame_step p t f fs c x)
framed calls over p t f fs None x h = ran calls over p t f fs x h
framed calls over p t f fs (Some c) x h = staged calls over p t f fs c c.stage x h

started : (calls : List ScriptCall) (over : List Ending) (cs : List ScriptCall) (x : Thread) → Has calls over x → StepHas calls over (start_step cs x)
started calls over [] x h = h
started calls over (c ∷ cs) x h = asked calls over (request Kernel (what.Enter (Script c.function) c.args)) x h

undue_has : (calls : List ScriptCall) (over : List Ending) (p : Program) (t : ℕ) (frames : List Frame) (x : Thread) → Has calls over x → StepHas calls over (undue_step p t frames x)
undue_has calls over p t [] x h = started calls over x.calls x h
undue_has calls over p t (f ∷ fs) x h = framed calls over p t f fs f.crossing x h

due_has : (calls : List ScriptCall) (over : List Ending) (due : Option Outcome) (x : Thread) (s : Step) → Has calls over x → StepHas calls over s → StepHas calls over (due_or due x s)
due_has calls over None x s h k = k
due_has calls over (Some o) x s h k = h

step_has : (calls : List ScriptCall) (over : List Ending) (p : Program) (t : ℕ) (x : Thread) → Has calls over x → StepHas calls over (step p t x)
step_has calls over p t x h = due_has calls over x.due x (undue_step p t x.frames x) h (undue_has calls over p t x.frames x h)

abbrev pub AskingHas : List ScriptCall → List Ending → Asking → Type 0
AskingHas calls over a = Has calls over a.thread

goes_on : (calls : List ScriptCall) (over : List Ending) (n : ℕ) (p : Program) (t : ℕ) (s : Step) → StepHas calls over s → ((more : Thread) → Has calls over more → AskingHas calls over (next_within n p t more))
    → AskingHas calls over (elim s [ Goes more ↦ next_within n p t more | Asks more r ↦ record { thread = more; request = r } ])
goes_on calls over n p t (Goes more) h k = k more h
goes_on calls over n p t (Asks more r) h k = h

within_has : (calls : List ScriptCall) (over : List Ending) (n : ℕ) (p : Program) (t : ℕ) (x : Thread) → Has calls over x → AskingHas calls over (next_within n p t x)
within_has calls over zero p t x h = h
within_has calls over (suc n) p t x h =
    goes_on calls over n p t (step p t x) (step_has calls over p t x h) (λ more k. within_has calls over n p t more k)

pub next_has : (p : Program) (t : ℕ) (x : Thread) → AskingHas x.calls x.ended (next p t x)
next_has p t x = within_has x.calls x.ended (2 * x.fuel + length x.frames + 1) p t x (refl, refl)
