-- A thread that fits asks as it may, and fits when it asks.
use Rattle.std.proofs.Common.{◌≡◌, ℕ, zero, suc, ◌+◌, ◌*◌, ◌<◌, ◌≤◌, Bool, true, false, All, List, [], ◌∷◌, length, Option, Some, None, refl, sym, subst, ◌∙◌, ap, arith, ltb-true}
use Rattle.std.proofs.lemmas.List.Elements.{All-head}
use Rattle.lx_words.specs.Word.{Word}
use Rattle.lx_ir.specs.declared.module.Function.{Function}
use Rattle.lx_ir.specs.declared.instr.Op.{Op}
use Rattle.lx_model.specs.declared.program.Program.{Program}
use Rattle.lx_model.specs.declared.program.ScriptCall.{ScriptCall}
use Rattle.lx_model.specs.declared.request.Outcome.{Outcome}
use Rattle.lx_model.specs.declared.request.Outcome.TheVariants.{Trapped, Budget}
use Rattle.lx_model.specs.declared.request.Trap.TheVariants.{TooDeep, Unreachable}
use Rattle.lx_model.specs.declared.request.Request.{Request}
use Rattle.lx_model.specs.Program.{home_or_kernel, function_of}
use Rattle.lx_model.specs.Thread.{Activation, Stage, Pre, Body, Post, Crossing, Frame, Ending, Thread, activation, activation_behind, routine_or_none, start_of}
use Rattle.lx_model.specs.Effect.{Effect, Moves, Wants, Enters, Calls, Traps, effect}
use Rattle.lx_model.specs.Next.{Step, Goes, Asks, Asking, actions_of, after_leaving, comes_to, effect_step, frame_step, has_action, has_room, if_paid, if_room, instruction_step, next, next_within, post_step, request, stage_step, start_step, step, undue_step}
use Rattle.lx_model.specs.Fits.{Fits, FitsFunction, FitsPrincipal, FitsResult, FitsStack}
use Rattle.lx_link_texts.specs.WellFormed.{FitsCall, IsWellFormed}
use Rattle.lx_simulation.proofs.Absorbing.{thread_of, frame_of}
use Rattle.lx_linked.specs.Threads.{CrossingFits, FrameFits, FramesFit, Runs, RunsAt, StageFits, ThreadFits, Waits}
use Rattle.lx_linked.specs.Threads.{result_of as width_of_result}
use Rattle.lx_linked.proofs.Widths.{result_is}
use Rattle.lx_linked.proofs.FittingFrames.{starts}
use Rattle.lx_linked.proofs.Callees.{principal_there}
use Rattle.lx_linked.proofs.FittingEffects.{Asked, EffectFits, width_if, effect_fits, left_runs}

-- frames

-- a crossing's stage, where its function runs
stage_runs : (p : Program) (a b : Activation) (n : ℕ) (s : Stage) → Runs p b → StageFits p a n s → StageFits p b n s
stage_runs p a b n (Pre k) r h = (h.0, r)
stage_runs p a b n Body r h = r
stage_runs p a b n (Post k v) r h = h

pub crossing_runs : (p : Program) (a b : Activation) (x : Option Crossing) → b.function ≡ a.function → Runs p b → CrossingFits p a x → CrossingFits p b x
crossing_runs p a b None e r h = r
crossing_runs p a b (Some c) e r h = (h.0 ∙ sym e, h.1, h.2, stage_runs p a b c.function c.stage r h.3)

-- the function that runs is there
pub frame_function : (p : Program) (a : Activation) (x : Option Crossing) → CrossingFits p a x → (g : Function) × (function_of p a.function ≡ Some g)
frame_function p a None h = (h.0, h.1)
frame_function p a (Some c) h = (h.2.0, ap (function_of p) (sym h.0) ∙ h.2.1)

pub asker_there : (p : Program) → IsWellFormed p → (t : ℕ) (f : Frame) (fs : List Frame) → FrameFits p t f fs → FitsPrincipal p f.principal
asker_there p wf t f fs h = let g = frame_function p f.run f.crossing h.crossing in principal_there p wf f.principal f.run.function g.0 g.1 h.text

-- the frame's function runs on
pub frame_runs : (p : Program) (t : ℕ) (f : Frame) (fs : List Frame) (b : Activation) → b.function ≡ f.run.function → FitsStack t b.low b.high → Runs p b → FrameFits p t f fs → FrameFits p t (frame_of b f.principal f.crossing) fs
frame_runs p t f fs b e stack r h =
    record {
      text = h.text ∙ ap (home_or_kernel p) (sym e);
      stack = stack;
      crossing = crossing_runs p f.run b f.crossing e r h.crossing;
      below = subst (λ (n : ℕ). Waits p n fs) (sym e) h.below;
    }

same_stack : (t low high low2 high2 : ℕ) → low2 ≡ low → high2 ≡ high → FitsStack t low high → FitsStack t low2 high2
same_stack t low high low2 high2 l h s = subst (λ (x : ℕ). FitsStack t x high2) (sym l) (subst (λ (x : ℕ). FitsStack t low x) (sym h) s)

-- a function that starts with these arguments
pub started : (p : Program) (n : ℕ) (args : List Word) (low : ℕ) → FitsFunction p n args → Runs p (activation p n args low)
started p n args low h = (h.0, h.1, subst (λ (o : Option Function). RunsAt h.0 (start_of n (routine_or_none o) args low)) (sym h.1) (starts h.0 n args low h.2))

empty_stack : (t low high : ℕ) → FitsStack t low high → FitsStack t high high
empty_stack t low high s = (le_trans _ _ _ s.0 s.1, refl_le high, s.2) where
  le_trans : (a b c : ℕ) → a ≤ b → b ≤ c → a ≤ c
  le_trans a b c h k = omega (arith, h, k)

  refl_le : (a : ℕ) → a ≤ a
  refl_le a = omega arith

own_frame_fits : (p : Program) (t : ℕ) (f : Frame) (fs : List Frame) (n : ℕ) (args : List Word) → FrameFits p t f fs → Runs p f.run → EffectFits p t f fs (Calls n args) → FrameFits p t (frame_of (activation p n args f.run.high) f.principal None) (f ∷ fs)
own_frame_fits p t f fs n args h r e =
    record {
      text = h.text ∙ sym e.1;
      stack = empty_stack t f.run.low f.run.high h.stack;
      crossing = started p n args f.run.high e.0;
      below = (r, e.2);
    }

-- threads

abbrev pub AllCalls : Program → List ScriptCall → Type 0
AllCalls p calls = All (FitsCall p) calls

pub thread_fits : (p : Program) (t : ℕ) (calls : List ScriptCall) (ended : List Ending) (fuel : ℕ) (due : Option Outcome) (fs : List Frame) → t < 16 → AllCalls p calls → FramesFit p t fs → ThreadFits p t (thread_of calls ended fuel due fs)
thread_fits p t calls ended fuel due fs few fit h = record { few = few; calls = fit; frames = h }

-- a request of a thread, which is what is known to take its reply in
abbrev pub AsksWell : Program → ℕ → Thread → Request → Type 0
AsksWell p t thread r = ThreadFits p t thread × Fits p t r × Asked p thread.frames r.what

abbrev pub StepFits : Program → ℕ → Step → Type 0
StepFits p t (Goes thread) = ThreadFits p t thread
StepFits p t (Asks thread r) = AsksWell p t thread r

ends : (p : Program) (t : ℕ) (calls : List ScriptCall) (ended : List Ending) (fuel : ℕ) (fs : List Frame) (o : Outcome) → t < 16 → AllCalls p calls → StepFits p t (comes_to o (thread_of calls ended fuel None fs))
ends p t calls ended fuel fs o few fit = (thread_fits p t calls ended fuel (Some o) [] few fit tt, (few, tt, tt), tt)

room : (p : Program) (t : ℕ) (calls : List ScriptCall) (ended : List Ending) (fuel : ℕ) (fs : List Frame) (b : Bool) (i : Step) → t < 16 → AllCalls p calls → StepFits p t i → StepFits p t (if_room b (thread_of calls ended fuel None fs) i)
room p t calls ended fuel fs true i few fit h = h
room p t calls ended fuel fs false i few fit h = ends p t calls ended fuel fs (Trapped TooDeep) few fit

step_of : (p : Program) → IsWellFormed p → (t : ℕ) (calls : List ScriptCall) (ended : List Ending) (fuel : ℕ) (f : Frame) (fs : List Frame) (e : Effect) → t < 16 → AllCalls p calls → FrameFits p t f fs → FramesFit p t fs → Runs p f.run → EffectFits p t f fs e →
    StepFits p t (effect_step p t (thread_of calls ended fuel None (f ∷ fs)) f fs e)
step_of p wf t calls ended fuel f fs (Moves b) few fit top below r h =
    thread_fits p t calls ended fuel None (frame_of b f.principal f.crossing ∷ fs) few fit
    (frame_runs p t f fs b h.1 (same_stack t f.run.low f.run.high b.low b.high h.2 h.3 top.stack) h.0 top, below)
step_of p wf t calls ended fuel f fs (Wants w) few fit top below r h =
    (thread_fits p t calls ended fuel None (f ∷ fs) few fit (top, below), (few, asker_there p wf t f fs top, h.0), h.1)
step_of p wf t calls ended fuel f fs (Enters w) few fit top below r h =
    room p t calls ended fuel (f ∷ fs) (has_room (f ∷ fs)) (Asks (thread_of calls ended fuel None (f ∷ fs)) (request f.principal w)) few fit
    (thread_fits p t calls ended fuel None (f ∷ fs) few fit (top, below), (few, asker_there p wf t f fs top, h.0), h.1)
step_of p wf t calls ended fuel f fs (Calls n args) few fit top below r h =
    room p t calls ended fuel (f ∷ fs) (has_room (f ∷ fs)) (Goes (thread_of calls ended fuel None (frame_of (activation p n args f.run.high) f.principal None ∷ f ∷ fs))) few fit
    (thread_fits p t calls ended fuel None (frame_of (activation p n args f.run.high) f.principal None ∷ f ∷ fs) few fit (own_frame_fits p t f fs n args top r h, (top, below)))
step_of p wf t calls ended fuel f fs (Traps trap) few fit top below r h = ends p t calls ended fuel (f ∷ fs) (Trapped trap) few fit

code_step : (p : Program) → IsWellFormed p → (t : ℕ) (calls : List ScriptCall) (ended : List Ending) (fuel : ℕ) (f : Frame) (fs : List Frame) (code : List Op) → f.run.code ≡ code → t < 16 → AllCalls p calls → FrameFits p t f fs → FramesFit p t fs → Runs p f.run →
    StepFits p t (if_paid (thread_of calls ended fuel None (f ∷ fs)) (instruction_step p t f fs code))
code_step p wf t calls ended zero f fs code ec few fit top below r = ends p t calls ended 0 (f ∷ fs) Budget few fit
code_step p wf t calls ended (suc n) f fs [] ec few fit top below r = ends p t calls ended n (f ∷ fs) (Trapped Unreachable) few fit
code_step p wf t calls ended (suc n) f fs (o ∷ os) ec few fit top below r =
    step_of p wf t calls ended n f fs (effect p f.run o) few fit top below r (effect_fits p wf t f fs top.text top.stack o os r ec)

-- the top frame is left with a value as wide as its function's result
pub leaves : (p : Program) → IsWellFormed p → (t : ℕ) (calls : List ScriptCall) (ended : List Ending) (fuel : ℕ) (due : Option Outcome) (old fs : List Frame) (n : ℕ) (v : Option Word) → t < 16 → AllCalls p calls → Waits p n fs → FramesFit p t fs →
    width_if v ≡ width_of_result p n → ThreadFits p t (after_leaving v fs (thread_of calls ended fuel due old))
leaves p wf t calls ended fuel due old [] n v few fit waits below e = record { few = few; calls = fit; frames = tt }
leaves p wf t calls ended fuel due old (f ∷ fs) n v few fit waits below e =
    record { few = few; calls = fit; frames = (frame_runs p t f fs (activation_behind v f.run) refl below.0.stack (left_runs p wf f.run (width_of_result p n) v waits.0 waits.1 e) below.0, below.1) }

post : (p : Program) → IsWellFormed p → (t : ℕ) (calls : List ScriptCall) (ended : List Ending) (fuel : ℕ) (f : Frame) (c : Crossing) (k : ℕ) (v : Option Word) (fs : List Frame) (more : Bool) → has_action p c.function true k ≡ more → t < 16 → AllCalls p calls →
    FrameFits p t f fs → FramesFit p t fs → c.function ≡ f.run.function → FitsPrincipal p c.source → FitsFunction p c.function c.args → FitsResult p c.function true v →
    StepFits p t (post_step more f fs c k v (thread_of calls ended fuel None (f ∷ fs)))
post p wf t calls ended fuel f c k v fs false em few fit top below same source fits result =
    leaves p wf t calls ended fuel None (f ∷ fs) fs c.function v few fit (subst (λ (n : ℕ). Waits p n fs) (sym same) top.below) below (result_is (width_if v) (width_of_result p c.function) result)
post p wf t calls ended zero f c k v fs true em few fit top below same source fits result = ends p t calls ended 0 (f ∷ fs) Budget few fit
post p wf t calls ended (suc n) f c k v fs true em few fit top below same source fits result =
    let who = asker_there p wf t f fs top in
    (thread_fits p t calls ended n None (f ∷ fs) few fit (top, below), (few, who, (ltb-true k (length (actions_of p c.function true)) em, fits, result, who, source)), tt)

stage : (p : Program) → IsWellFormed p → (t : ℕ) (calls : List ScriptCall) (ended : List Ending) (fuel : ℕ) (f : Frame) (c : Crossing) (s : Stage) (fs : List Frame) → t < 16 → AllCalls p calls → FrameFits p t f fs → FramesFit p t fs →
    c.function ≡ f.run.function → FitsPrincipal p c.source → FitsFunction p c.function c.args → StageFits p f.run c.function s → StepFits p t (stage_step p t f fs c s (thread_of calls ended fuel None (f ∷ fs)))
stage p wf t calls ended zero f c (Pre k) fs few fit top below same source fits h = ends p t calls ended 0 (f ∷ fs) Budget few fit
stage p wf t calls ended (suc n) f c (Pre k) fs few fit top below same source fits h =
    (thread_fits p t calls ended n None (f ∷ fs) few fit (top, below), (few, source, (h.0, fits, refl, source, asker_there p wf t f fs top)), tt)
stage p wf t calls ended fuel f c Body fs few fit top below same source fits h = code_step p wf t calls ended fuel f fs f.run.code refl few fit top below h
stage p wf t calls ended fuel f c (Post k v) fs few fit top below same source fits h =
    post p wf t calls ended fuel f c k v fs (has_action p c.function true k) refl few fit top below same source fits h

framed : (p : Program) → IsWellFormed p → (t : ℕ) (calls : List ScriptCall) (ended : List Ending) (fuel : ℕ) (f : Frame) (x : Option Crossing) (fs : List Frame) → t < 16 → AllCalls p calls → FrameFits p t f fs → FramesFit p t fs → CrossingFits p f.run x →
    StepFits p t (frame_step p t f fs x (thread_of calls ended fuel None (f ∷ fs)))
framed p wf t calls ended fuel f None fs few fit top below h = code_step p wf t calls ended fuel f fs f.run.code refl few fit top below h
framed p wf t calls ended fuel f (Some c) fs few fit top below h = stage p wf t calls ended fuel f c c.stage fs few fit top below h.0 h.1 h.2 h.3

start : (p : Program) (t : ℕ) (all : List ScriptCall) (ended : List Ending) (fuel : ℕ) (cs : List ScriptCall) → t < 16 → AllCalls p all → AllCalls p cs → StepFits p t (start_step cs (thread_of all ended fuel None []))
start p t all ended fuel [] few fit mine = ends p t all ended fuel [] Budget few fit
start p t all ended zero (c ∷ cs) few fit mine = ends p t all ended 0 [] Budget few fit
start p t all ended (suc n) (c ∷ cs) few fit mine = (thread_fits p t all ended n None [] few fit tt, (few, tt, All-head (FitsCall p) c cs mine), tt)

undue : (p : Program) → IsWellFormed p → (t : ℕ) (calls : List ScriptCall) (ended : List Ending) (fuel : ℕ) (fs : List Frame) → t < 16 → AllCalls p calls → FramesFit p t fs → StepFits p t (undue_step p t fs (thread_of calls ended fuel None fs))
undue p wf t calls ended fuel [] few fit h = start p t calls ended fuel calls few fit fit
undue p wf t calls ended fuel (f ∷ fs) few fit h = framed p wf t calls ended fuel f f.crossing fs few fit h.0 h.1 h.0.crossing

due : (p : Program) → IsWellFormed p → (t : ℕ) (calls : List ScriptCall) (ended : List Ending) (fuel : ℕ) (o : Option Outcome) (fs : List Frame) → t < 16 → AllCalls p calls → FramesFit p t fs → StepFits p t (step p t (thread_of calls ended fuel o fs))
due p wf t calls ended fuel None fs few fit h = undue p wf t calls ended fuel fs few fit h
due p wf t calls ended fuel (Some o) fs few fit h = (thread_fits p t calls ended fuel (Some o) fs few fit h, (few, tt, tt), tt)

step_fits : (p : Program) → IsWellFormed p → (t : ℕ) (thread : Thread) → ThreadFits p t thread → StepFits p t (step p t thread)
step_fits p wf t thread h = due p wf t thread.calls thread.ended thread.fuel thread.due thread.frames h.few h.calls h.frames

-- up to the next request

abbrev pub AskingFits : Program → ℕ → Asking → Type 0
AskingFits p t a = AsksWell p t a.thread a.request

goes_on : (p : Program) (t n : ℕ) (i : Step) → StepFits p t i → ((more : Thread) → ThreadFits p t more → AskingFits p t (next_within n p t more)) →
    AskingFits p t (elim i [ Goes more ↦ next_within n p t more | Asks more r ↦ record { thread = more; request = r } ])
goes_on p t n (Goes more) h ih = ih more h
goes_on p t n (Asks more r) h ih = h

within : (n : ℕ) (p : Program) → IsWellFormed p → (t : ℕ) (thread : Thread) → ThreadFits p t thread → AskingFits p t (next_within n p t thread)
within zero p wf t thread h = (h, (h.few, tt, tt), tt)
within (suc n) p wf t thread h = goes_on p t n (step p t thread) (step_fits p wf t thread h) (λ more k. within n p wf t more k)

pub next_fits : (p : Program) → IsWellFormed p → (t : ℕ) (thread : Thread) → ThreadFits p t thread → AskingFits p t (next p t thread)
next_fits p wf t thread h = within (2 * thread.fuel + length thread.frames + 1) p wf t thread h
