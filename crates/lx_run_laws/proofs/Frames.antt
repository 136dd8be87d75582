-- The frames of a thread up to its next request, and what it asks.
use Rattle.std.proofs.Common.{◌≡◌, ℕ, zero, suc, ◌+◌, ◌*◌, Bool, true, false, Option, Some, None, List, [], ◌∷◌, length, refl, sym, ap, subst, ◌∙◌}
use Rattle.std.specs.Prelude.{⊤}
use Rattle.lx_words.specs.Word.{Word}
use Rattle.lx_caps.specs.declared.Principal.{Principal}
use Rattle.lx_caps.specs.declared.Principal.TheVariants.{Kernel}
use Rattle.lx_ir.specs.declared.instr.Op.{Op}
use Rattle.lx_model.specs.declared.program.Program.{Program}
use Rattle.lx_model.specs.declared.program.ScriptCall.{ScriptCall}
use Rattle.lx_model.specs.declared.request.Outcome.{Outcome}
use Rattle.lx_model.specs.declared.request.Outcome.TheVariants.{Trapped, Budget}
use Rattle.lx_model.specs.declared.request.Trap.TheVariants.{TooDeep, Unreachable}
use Rattle.lx_model.specs.declared.request.Request.{Request}
use Rattle.lx_model.specs.declared.request.Way.TheVariants.{Script}
use Rattle.lx_model.specs.declared.request.What.{What}
use Rattle.lx_model.specs.declared.request.What.TheVariants as what
use Rattle.lx_model.specs.Effect.{Effect, Moves, Wants, Enters, Calls, Traps, effect}
use Rattle.lx_model.specs.Next.{Asking, Step, Goes, Asks, after_leaving, due_or, effect_step, frame_step, has_action, has_room, if_paid, if_room, instruction_step, next, next_within, own_frame, post_action, post_step, pre_action, request, stage_step, start_step, step, undue_step, with_run}
use Rattle.lx_model.specs.Program.{home_or_kernel}
use Rattle.lx_model.specs.Thread.{Activation, Crossing, Ending, Frame, Stage, Pre, Body, Post, Thread}
use Rattle.lx_run_laws.specs.Texts.{asker, top_principal, IsBetween, IsCalledBy, RunsAsText, RunAsTexts}
use Rattle.lx_run_laws.proofs.ReachedEffects.{IsOfRunning, StaysIn, effect_stays}

-- a function runs as a principal of its text for which this holds
pub record Fits (P : Principal → Type 0) (p : Program) (f : Frame) (below : List Frame) : Type 0 where
  pub known : P f.principal
  pub runs : RunsAsText p f below

abbrev pub AllFit : (Principal → Type 0) → Program → List Frame → Type 0
AllFit P p [] = ⊤
AllFit P p (f ∷ fs) = Fits P p f fs × AllFit P p fs

-- the request of a thread with these frames
pub record IsAskedFrom (P : Principal → Type 0) (p : Program) (frames : List Frame) (r : Request) : Type 0 where
  pub fit : AllFit P p frames
  pub who : r.who ≡ asker frames r.what
  pub between : IsBetween frames r.what

abbrev StepFits : (Principal → Type 0) → Program → Step → Type 0
StepFits P p (Goes x) = AllFit P p x.frames
StepFits P p (Asks x r) = IsAskedFrom P p x.frames r

-- the end of a call
over : (P : Principal → Type 0) (p : Program) (frames : List Frame) (o : Outcome) → AllFit P p frames → IsAskedFrom P p frames (request Kernel (what.Finish o))
over P p frames o fit = record { fit = fit; who = refl; between = tt }

roomed : (P : Principal → Type 0) (p : Program) (b : Bool) (x : Thread) (s : Step) → StepFits P p s → StepFits P p (if_room b x s)
roomed P p true x s h = h
roomed P p false x s h = over P p [] (Trapped TooDeep) tt

-- the frame's function runs on, or another one of its text
on_same : (P : Principal → Type 0) (p : Program) (f : Frame) (fs : List Frame) (a : Activation) → a.function ≡ f.run.function → Fits P p f fs → Fits P p (with_run f a) fs
on_same P p f fs a same fit = record {
  known = fit.known;
  runs = record { text = fit.runs.text ∙ ap (home_or_kernel p) (sym same); source = fit.runs.source };
}

own_fits : (P : Principal → Type 0) (p : Program) (t : ℕ) (f : Frame) (fs : List Frame) (n : ℕ) (args : List Word) → home_or_kernel p n ≡ home_or_kernel p f.run.function → Fits P p f fs
    → Fits P p (own_frame p t f n args) (f ∷ fs)
own_fits P p t f fs n args same fit = record { known = fit.known; runs = record { text = fit.runs.text ∙ sym same; source = tt } }

wanted : (P : Principal → Type 0) (p : Program) (f : Frame) (fs frames : List Frame) (w : What) → frames ≡ f ∷ fs → IsOfRunning w → AllFit P p frames → IsAskedFrom P p frames (request f.principal w)
wanted P p f fs frames w is plain all =
    record { fit = all; who = sym (ap top_principal is) ∙ sym (plain.asked frames); between = plain.no_action frames }

effected : (P : Principal → Type 0) (p : Program) (t : ℕ) (x : Thread) (f : Frame) (fs : List Frame) (e : Effect) → x.frames ≡ f ∷ fs → StaysIn p f.run e → AllFit P p x.frames → AllFit P p (f ∷ fs)
    → StepFits P p (effect_step p t x f fs e)
effected P p t x f fs (Moves a) is stays all fit = (on_same P p f fs a stays fit.0, fit.1)
effected P p t x f fs (Wants w) is stays all fit = wanted P p f fs x.frames w is stays all
effected P p t x f fs (Enters w) is stays all fit = roomed P p (has_room (f ∷ fs)) x _ (wanted P p f fs x.frames w is stays all)
effected P p t x f fs (Calls n args) is stays all fit = roomed P p (has_room (f ∷ fs)) x _ (own_fits P p t f fs n args stays fit.0, fit)
effected P p t x f fs (Traps trap) is stays all fit = over P p [] (Trapped trap) tt

instructed : (P : Principal → Type 0) (p : Program) (t : ℕ) (f : Frame) (fs : List Frame) (os : List Op) (x : Thread) → x.frames ≡ f ∷ fs → AllFit P p x.frames → AllFit P p (f ∷ fs)
    → StepFits P p (instruction_step p t f fs os x)
instructed P p t f fs [] x is all fit = over P p [] (Trapped Unreachable) tt
instructed P p t f fs (o ∷ os) x is all fit = effected P p t x f fs (effect p f.run o) is (effect_stays p f.run o) all fit

-- a step that costs a unit
paid : (P : Principal → Type 0) (p : Program) (calls : List ScriptCall) (ended : List Ending) (fuel : ℕ) (due : Option Outcome) (frames : List Frame) (go : Thread → Step)
    → ((n : ℕ) → StepFits P p (go (record { calls = calls; ended = ended; fuel = n; due = due; frames = frames })))
    → StepFits P p (if_paid (record { calls = calls; ended = ended; fuel = fuel; due = due; frames = frames }) go)
paid P p calls ended zero due frames go h = over P p [] Budget tt
paid P p calls ended (suc n) due frames go h = h n

ran : (P : Principal → Type 0) (p : Program) (t : ℕ) (f : Frame) (fs : List Frame) (x : Thread) → x.frames ≡ f ∷ fs → AllFit P p x.frames → AllFit P p (f ∷ fs)
    → StepFits P p (if_paid x (instruction_step p t f fs f.run.code))
ran P p t f fs x is all fit =
    paid P p x.calls x.ended x.fuel x.due x.frames (instruction_step p t f fs f.run.code) (λ n. instructed P p t f fs f.run.code _ is all fit)

asked : (P : Principal → Type 0) (p : Program) (r : Request) (x : Thread) → IsAskedFrom P p x.frames r → StepFits P p (if_paid x (λ poorer. Asks poorer r))
asked P p r x h = paid P p x.calls x.ended x.fuel x.due x.frames (λ poorer. Asks poorer r) (λ n. h)

-- an action, where the frames are these
before_body : (P : Principal → Type 0) (p : Program) (f : Frame) (fs frames : List Frame) (c : Crossing) (k : ℕ) → frames ≡ f ∷ fs → c.source ≡ top_principal fs → AllFit P p frames
    → IsAskedFrom P p frames (pre_action f c k)
before_body P p f fs frames c k is from all =
    subst (λ (now : List Frame). AllFit P p now → IsAskedFrom P p now (pre_action f c k)) (sym is)
    (λ fit. record { fit = fit; who = from; between = (from, refl) }) all

behind_body : (P : Principal → Type 0) (p : Program) (f : Frame) (fs frames : List Frame) (c : Crossing) (k : ℕ) (v : Option Word) → frames ≡ f ∷ fs → c.source ≡ top_principal fs → AllFit P p frames
    → IsAskedFrom P p frames (post_action f c k v)
behind_body P p f fs frames c k v is from all =
    subst (λ (now : List Frame). AllFit P p now → IsAskedFrom P p now (post_action f c k v)) (sym is)
    (λ fit. record { fit = fit; who = refl; between = (refl, from) }) all

pub left_fits : (P : Principal → Type 0) (p : Program) (v : Option Word) (fs : List Frame) (x : Thread) → AllFit P p fs → AllFit P p (after_leaving v fs x).frames
left_fits P p v [] x fit = tt
left_fits P p v (f ∷ fs) x fit = (on_same P p f fs _ refl fit.0, fit.1)

posted : (P : Principal → Type 0) (p : Program) (b : Bool) (f : Frame) (fs : List Frame) (c : Crossing) (k : ℕ) (v : Option Word) (x : Thread) → x.frames ≡ f ∷ fs → c.source ≡ top_principal fs
    → AllFit P p x.frames → AllFit P p fs → StepFits P p (post_step b f fs c k v x)
posted P p true f fs c k v x is from all fit = asked P p (post_action f c k v) x (behind_body P p f fs x.frames c k v is from all)
posted P p false f fs c k v x is from all fit = left_fits P p v fs x fit

staged : (P : Principal → Type 0) (p : Program) (t : ℕ) (f : Frame) (fs : List Frame) (c : Crossing) (s : Stage) (x : Thread) → x.frames ≡ f ∷ fs → c.source ≡ top_principal fs
    → AllFit P p x.frames → AllFit P p (f ∷ fs) → StepFits P p (stage_step p t f fs c s x)
staged P p t f fs c (Pre k) x is from all fit = asked P p (pre_action f c k) x (before_body P p f fs x.frames c k is from all)
staged P p t f fs c Body x is from all fit = ran P p t f fs x is all fit
staged P p t f fs c (Post k v) x is from all fit = posted P p (has_action p c.function true k) f fs c k v x is from all fit.1

framed : (P : Principal → Type 0) (p : Program) (t : ℕ) (f : Frame) (fs : List Frame) (c : Option Crossing) (x : Thread) → x.frames ≡ f ∷ fs → IsCalledBy (top_principal fs) c
    → AllFit P p x.frames → AllFit P p (f ∷ fs) → StepFits P p (frame_step p t f fs c x)
framed P p t f fs None x is from all fit = ran P p t f fs x is all fit
framed P p t f fs (Some c) x is from all fit = staged P p t f fs c c.stage x is from all fit

started : (P : Principal → Type 0) (p : Program) (cs : List ScriptCall) (x : Thread) → x.frames ≡ [] → AllFit P p x.frames → StepFits P p (start_step cs x)
started P p [] x is all = over P p [] Budget tt
started P p (c ∷ cs) x is all =
    asked P p (request Kernel (what.Enter (Script c.function) c.args)) x (record { fit = all; who = sym (ap top_principal is); between = tt })

undue_fits : (P : Principal → Type 0) (p : Program) (t : ℕ) (frames : List Frame) (x : Thread) → x.frames ≡ frames → AllFit P p x.frames → AllFit P p frames → StepFits P p (undue_step p t frames x)
undue_fits P p t [] x is all fit = started P p x.calls x is all
undue_fits P p t (f ∷ fs) x is all fit = framed P p t f fs f.crossing x is fit.0.runs.source all fit

due_fits : (P : Principal → Type 0) (p : Program) (due : Option Outcome) (x : Thread) (s : Step) → AllFit P p x.frames → StepFits P p s → StepFits P p (due_or due x s)
due_fits P p None x s all h = h
due_fits P p (Some o) x s all h = over P p x.frames o all

step_fits : (P : Principal → Type 0) (p : Program) (t : ℕ) (x : Thread) → AllFit P p x.frames → StepFits P p (step p t x)
step_fits P p t x all = due_fits P p x.due x (undue_step p t x.frames x) all (undue_fits P p t x.frames x refl all all)

abbrev AskingFits : (Principal → Type 0) → Program → Asking → Type 0
AskingFits P p a = IsAskedFrom P p a.thread.frames a.request

goes_on : (P : Principal → Type 0) (n : ℕ) (p : Program) (t : ℕ) (s : Step) → StepFits P p s → ((more : Thread) → AllFit P p more.frames → AskingFits P p (next_within n p t more))
    → AskingFits P p (elim s [ Goes more ↦ next_within n p t more | Asks more r ↦ record { thread = more; request = r } ])
goes_on P n p t (Goes more) h k = k more h
goes_on P n p t (Asks more r) h k = h

within_fits : (P : Principal → Type 0) (n : ℕ) (p : Program) (t : ℕ) (x : Thread) → AllFit P p x.frames → AskingFits P p (next_within n p t x)
within_fits P zero p t x all = over P p x.frames Budget all
within_fits P (suc n) p t x all = goes_on P n p t (step p t x) (step_fits P p t x all) (λ more h. within_fits P n p t more h)

-- a thread keeps such frames up to its next request
pub next_fits : (P : Principal → Type 0) (p : Program) (t : ℕ) (x : Thread) → AllFit P p x.frames → IsAskedFrom P p (next p t x).thread.frames (next p t x).request
next_fits P p t x all = within_fits P (2 * x.fuel + length x.frames + 1) p t x all

pub all_run : (P : Principal → Type 0) (p : Program) (frames : List Frame) → AllFit P p frames → RunAsTexts p frames
all_run P p [] all = tt
all_run P p (f ∷ fs) all = (all.0.runs, all_run P p fs all.1)

-- what holds of more principals
pub all_known : (P Q : Principal → Type 0) (p : Program) (frames : List Frame) → ((q : Principal) → P q → Q q) → AllFit P p frames → AllFit Q p frames
all_known P Q p [] more all = tt
all_known P Q p (f ∷ fs) more all = (record { known = more f.principal all.0.known; runs = all.0.runs }, all_known P Q p fs more all.1)
