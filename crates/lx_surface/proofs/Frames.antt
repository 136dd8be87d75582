-- The frames of a thread up to its next request, and what it asks.
use Rattle.std.proofs.Common.{◌≡◌, ℕ, zero, suc, ◌+◌, ◌*◌, Bool, true, false, Option, Some, None, List, [], ◌∷◌, length, refl, sym, ap, subst, ◌∙◌}
use Rattle.std.specs.Prelude.{⊤}
use Rattle.lx_words.specs.Word.{Word}
use Rattle.lx_ir.specs.declared.instr.Op.{Op}
use Rattle.lx_model.specs.declared.program.Program.{Program}
use Rattle.lx_model.specs.declared.program.ScriptCall.{ScriptCall}
use Rattle.lx_model.specs.declared.request.Outcome.{Outcome}
use Rattle.lx_model.specs.declared.request.Request.{Request}
use Rattle.lx_model.specs.Effect.{Effect, Moves, Wants, Enters, Calls, Traps, effect}
use Rattle.lx_model.specs.Enter.{text_of_principal}
use Rattle.lx_model.specs.Next.{Asking, Step, Goes, Asks, after_leaving, due_or, effect_step, frame_step, has_action, has_room, if_paid, if_room, instruction_step, next, next_within, own_frame, post_step, post_action, pre_action, stage_step, start_step, step, undue_step, with_run}
use Rattle.lx_model.specs.Program.{home_or_kernel}
use Rattle.lx_model.specs.Thread.{Activation, Crossing, Ending, Frame, Stage, Pre, Body, Post, Thread}
use Rattle.lx_surface.proofs.Named.{Each}
use Rattle.lx_surface.proofs.Effects.{CanCall, IsAllowed, IsAllowedEffect, effect_allowed}

-- a crossing is of the function that runs, and whoever called can call it
abbrev pub IsCalled : Program → ℕ → Option Crossing → Type 0
IsCalled p n None = ⊤
IsCalled p n (Some c) = (c.function ≡ n) × CanCall p c.source n

-- a function runs as a principal of its text, and was called by somebody who can call it
pub record IsWellCalled (p : Program) (f : Frame) : Type 0 where
  pub text : text_of_principal f.principal ≡ home_or_kernel p f.run.function
  pub called : IsCalled p f.run.function f.crossing

abbrev pub AllWellCalled : Program → List Frame → Type 0
AllWellCalled p fs = Each (IsWellCalled p) fs

-- a thread that asks for what it may
pub record AsksAllowed (p : Program) (frames : List Frame) (r : Request) : Type 0 where
  pub all : AllWellCalled p frames
  pub allowed : IsAllowed p r.who r.what

abbrev GoesWell : Program → Step → Type 0
GoesWell p (Goes x) = AllWellCalled p x.frames
GoesWell p (Asks x r) = AsksAllowed p x.frames r

roomed : (p : Program) (b : Bool) (x : Thread) (s : Step) → GoesWell p s → GoesWell p (if_room b x s)
roomed p true x s h = h
roomed p false x s h = record { all = tt; allowed = tt }

-- the frame's function runs on, or another one of its text
on_same : (p : Program) (f : Frame) (a : Activation) → a.function ≡ f.run.function → IsWellCalled p f → IsWellCalled p (with_run f a)
on_same p f a same is = record {
  text = is.text ∙ ap (home_or_kernel p) (sym same);
  called = subst (λ n. IsCalled p n f.crossing) (sym same) is.called;
}

own_called : (p : Program) (t : ℕ) (f : Frame) (n : ℕ) (args : List Word) → home_or_kernel p n ≡ home_or_kernel p f.run.function → IsWellCalled p f → IsWellCalled p (own_frame p t f n args)
own_called p t f n args same is = record { text = is.text ∙ sym same; called = tt }

effected : (p : Program) (t : ℕ) (x : Thread) (f : Frame) (fs : List Frame) (e : Effect) → IsAllowedEffect p f.run e → AllWellCalled p x.frames → AllWellCalled p (f ∷ fs) → GoesWell p (effect_step p t x f fs e)
effected p t x f fs (Moves a) stays all here = (on_same p f a stays here.0, here.1)
effected p t x f fs (Wants w) stays all here = record { all = all; allowed = stays f.principal here.0.text }
effected p t x f fs (Enters w) stays all here = roomed p (has_room (f ∷ fs)) x _ (record { all = all; allowed = stays f.principal here.0.text })
effected p t x f fs (Calls n args) stays all here = roomed p (has_room (f ∷ fs)) x _ (own_called p t f n args stays here.0, here)
effected p t x f fs (Traps trap) stays all here = record { all = tt; allowed = tt }

instructed : (p : Program) (t : ℕ) (f : Frame) (fs : List Frame) (os : List Op) (x : Thread) → AllWellCalled p x.frames → AllWellCalled p (f ∷ fs) → GoesWell p (instruction_step p t f fs os x)
instructed p t f fs [] x all here = record { all = tt; allowed = tt }
instructed p t f fs (o ∷ os) x all here = effected p t x f fs (effect p f.run o) (effect_allowed p f.run o) all here

-- a step that costs a unit
paid : (p : Program) (calls : List ScriptCall) (ended : List Ending) (fuel : ℕ) (due : Option Outcome) (frames : List Frame) (go : Thread → Step)
    → ((n : ℕ) → GoesWell p (go (record { calls = calls; ended = ended; fuel = n; due = due; frames = frames })))
    → GoesWell p (if_paid (record { calls = calls; ended = ended; fuel = fuel; due = due; frames = frames }) go)
paid p calls ended zero due frames go h = record { all = tt; allowed = tt }
paid p calls ended (suc n) due frames go h = h n

ran : (p : Program) (t : ℕ) (f : Frame) (fs : List Frame) (x : Thread) → AllWellCalled p x.frames → AllWellCalled p (f ∷ fs) → GoesWell p (if_paid x (instruction_step p t f fs f.run.code))
ran p t f fs x all here = paid p x.calls x.ended x.fuel x.due x.frames (instruction_step p t f fs f.run.code) (λ n. instructed p t f fs f.run.code _ all here)

asked : (p : Program) (r : Request) (x : Thread) → AsksAllowed p x.frames r → GoesWell p (if_paid x (λ poorer. Asks poorer r))
asked p r x h = paid p x.calls x.ended x.fuel x.due x.frames (λ poorer. Asks poorer r) (λ n. h)

-- an action of the top frame's crossing

before_body : (p : Program) (f : Frame) (frames : List Frame) (c : Crossing) (k : ℕ) → AllWellCalled p frames → IsWellCalled p f → IsCalled p f.run.function (Some c) → AsksAllowed p frames (pre_action f c k)
before_body p f frames c k all here is = record { all = all; allowed = here.text ∙ ap (home_or_kernel p) (sym is.0) }

behind_body : (p : Program) (f : Frame) (frames : List Frame) (c : Crossing) (k : ℕ) (v : Option Word) → AllWellCalled p frames → IsWellCalled p f → IsCalled p f.run.function (Some c) → AsksAllowed p frames (post_action f c k v)
behind_body p f frames c k v all here is = record {
  all = all;
  allowed = (here.text ∙ ap (home_or_kernel p) (sym is.0), subst (CanCall p c.source) (sym is.0) is.1);
}

pub left : (p : Program) (v : Option Word) (fs : List Frame) (x : Thread) → AllWellCalled p fs → AllWellCalled p (after_leaving v fs x).frames
left p v [] x all = tt
left p v (f ∷ fs) x all = (on_same p f _ refl all.0, all.1)

posted : (p : Program) (b : Bool) (f : Frame) (fs : List Frame) (c : Crossing) (k : ℕ) (v : Option Word) (x : Thread) → AllWellCalled p x.frames → AllWellCalled p (f ∷ fs) → IsCalled p f.run.function (Some c)
    → GoesWell p (post_step b f fs c k v x)
posted p true f fs c k v x all here is = asked p (post_action f c k v) x (behind_body p f x.frames c k v all here.0 is)
posted p false f fs c k v x all here is = left p v fs x here.1

staged : (p : Program) (t : ℕ) (f : Frame) (fs : List Frame) (c : Crossing) (s : Stage) (x : Thread) → AllWellCalled p x.frames → AllWellCalled p (f ∷ fs) → IsCalled p f.run.function (Some c)
    → GoesWell p (stage_step p t f fs c s x)
staged p t f fs c (Pre k) x all here is = asked p (pre_action f c k) x (before_body p f x.frames c k all here.0 is)
staged p t f fs c Body x all here is = ran p t f fs x all here
staged p t f fs c (Post k v) x all here is = posted p (has_action p c.function true k) f fs c k v x all here is

framed : (p : Program) (t : ℕ) (f : Frame) (fs : List Frame) (c : Option Crossing) (x : Thread) → AllWellCalled p x.frames → AllWellCalled p (f ∷ fs) → IsCalled p f.run.function c → GoesWell p (frame_step p t f fs c x)
framed p t f fs None x all here is = ran p t f fs x all here
framed p t f fs (Some c) x all here is = staged p t f fs c c.stage x all here is

started : (p : Program) (cs : List ScriptCall) (x : Thread) → AllWellCalled p x.frames → GoesWell p (start_step cs x)
started p [] x all = record { all = tt; allowed = tt }
started p (c ∷ cs) x all = asked p _ x (record { all = all; allowed = refl })

undue : (p : Program) (t : ℕ) (frames : List Frame) (x : Thread) → AllWellCalled p x.frames → AllWellCalled p frames → GoesWell p (undue_step p t frames x)
undue p t [] x all here = started p x.calls x all
undue p t (f ∷ fs) x all here = framed p t f fs f.crossing x all here here.0.called

due : (p : Program) (o : Option Outcome) (x : Thread) (s : Step) → AllWellCalled p x.frames → GoesWell p s → GoesWell p (due_or o x s)
due p None x s all h = h
due p (Some o) x s all h = record { all = all; allowed = tt }

stepped : (p : Program) (t : ℕ) (x : Thread) → AllWellCalled p x.frames → GoesWell p (step p t x)
stepped p t x all = due p x.due x (undue_step p t x.frames x) all (undue p t x.frames x all all)

abbrev AsksWell : Program → Asking → Type 0
AsksWell p a = AsksAllowed p a.thread.frames a.request

goes_on : (n : ℕ) (p : Program) (t : ℕ) (s : Step) → GoesWell p s → ((more : Thread) → AllWellCalled p more.frames → AsksWell p (next_within n p t more))
    → AsksWell p (elim s [ Goes more ↦ next_within n p t more | Asks more r ↦ record { thread = more; request = r } ])
goes_on n p t (Goes more) h k = k more h
goes_on n p t (Asks more r) h k = h

within : (n : ℕ) (p : Program) (t : ℕ) (x : Thread) → AllWellCalled p x.frames → AsksWell p (next_within n p t x)
within zero p t x all = record { all = all; allowed = tt }
within (suc n) p t x all = goes_on n p t (step p t x) (stepped p t x all) (λ more h. within n p t more h)

-- what a thread asks next it may
pub next_allowed : (p : Program) (t : ℕ) (x : Thread) → AllWellCalled p x.frames → AsksAllowed p (next p t x).thread.frames (next p t x).request
next_allowed p t x all = within (2 * x.fuel + length x.frames + 1) p t x all
