-- What a thread asks whose functions keep to its stack.
use Rattle.std.proofs.Common.{◌≡◌, ℕ, zero, suc, ◌+◌, ◌*◌, ◌<◌, Bool, true, false, Option, Some, None, List, [], ◌∷◌, length, refl, sym, ap, subst, ◌∙◌, arith}
use Rattle.std.specs.Prelude.{nat_lt}
use Rattle.std.proofs.lemmas.Bool.Decides.{nat_tests}
use Rattle.std.proofs.lemmas.Bool.{and_from}
use Rattle.lx_words.specs.Word.{Word}
use Rattle.lx_caps.specs.declared.Principal.TheVariants.{Kernel}
use Rattle.lx_ir.specs.declared.instr.Op.{Op}
use Rattle.lx_model.specs.declared.program.Program.{Program}
use Rattle.lx_model.specs.declared.program.ScriptCall.{ScriptCall}
use Rattle.lx_model.specs.declared.request.Outcome.{Outcome}
use Rattle.lx_model.specs.declared.request.Request.{Request}
use Rattle.lx_model.specs.declared.request.Way.TheVariants.{Script}
use Rattle.lx_model.specs.declared.request.What.TheVariants as what
use Rattle.lx_model.specs.Thread.{Crossing, Ending, Frame, Stage, Pre, Body, Post, Thread, top_of_stack}
use Rattle.lx_model.specs.Effect.{Effect, Moves, Wants, Enters, Calls, Traps, effect}
use Rattle.lx_model.specs.Next.{Asking, Step, Goes, Asks, after_leaving, due_or, effect_step, frame_step, has_action, has_room, if_paid, if_room, instruction_step, next, next_within, post_action, post_step, pre_action, request, stage_step, start_step, step, undue_step}
use Rattle.lx_run_laws.specs.Servable.{is_on_stack, is_servable, is_servable_what}
use Rattle.lx_run_laws.specs.OnStack.{IsOnStack, AreOnStack}
use Rattle.lx_run_laws.proofs.Effects.{IsAbove, KeepsPart, effect_keeps}
use Rattle.lx_caps.proofs.Tests.{below_16}

-- what a thread with these frames asks
pub record IsAskedOn (p : Program) (t : ℕ) (frames : List Frame) (r : Request) : Type 0 where
  pub servable : is_servable_what p t r.what ≡ true
  pub above : IsAbove (top_of_stack t frames) r.what
  pub frames_on : AreOnStack t frames

abbrev IsStepOn : Program → ℕ → Step → Type 0
IsStepOn p t (Goes x) = AreOnStack t x.frames
IsStepOn p t (Asks x r) = IsAskedOn p t x.frames r

-- the end of a call is asked for without frames
ended : (p : Program) (t : ℕ) (o : Outcome) → IsAskedOn p t [] (request Kernel (what.Finish o))
ended p t o = record { servable = refl; above = tt; frames_on = tt }

-- the bytes behind a part of the stack
pub top_on : (t low high : ℕ) → is_on_stack t low high ≡ true → is_on_stack t high high ≡ true
top_on t low high on = grind (arith, nat_tests)

pub moved_on : (t low high low2 high2 : ℕ) → is_on_stack t low high ≡ true → low2 ≡ low → high2 ≡ high → is_on_stack t low2 high2 ≡ true
moved_on t low high low2 high2 on l h = ap (λ x. is_on_stack t x high2) l ∙ ap (is_on_stack t low) h ∙ on

roomed : (p : Program) (t : ℕ) (b : Bool) (thread : Thread) (s : Step) → IsStepOn p t s → IsStepOn p t (if_room b thread s)
roomed p t true thread s h = h
roomed p t false thread s h = ended p t _

effected : (p : Program) (t : ℕ) (thread : Thread) (f : Frame) (fs : List Frame) (e : Effect) → thread.frames ≡ f ∷ fs → IsOnStack t f → AreOnStack t fs → KeepsPart p t f.run e
    → IsStepOn p t (effect_step p t thread f fs e)
effected p t thread f fs (Moves a) is on rest h = (moved_on t f.run.low f.run.high a.low a.high on h.0 h.1, rest)
effected p t thread f fs (Wants w) is on rest h =
    subst (λ frames. IsAskedOn p t frames (request f.principal w)) (sym is) (record { servable = h.0; above = h.1; frames_on = (on, rest) })
effected p t thread f fs (Enters w) is on rest h =
    roomed p t (has_room (f ∷ fs)) thread _
    (subst (λ frames. IsAskedOn p t frames (request f.principal w)) (sym is) (record { servable = h.0; above = h.1; frames_on = (on, rest) }))
effected p t thread f fs (Calls n args) is on rest h =
    roomed p t (has_room (f ∷ fs)) thread _ (top_on t f.run.low f.run.high on, (on, rest))
effected p t thread f fs (Traps trap) is on rest h = ended p t _

instructed : (p : Program) (t : ℕ) (f : Frame) (fs : List Frame) (os : List Op) (thread : Thread) → thread.frames ≡ f ∷ fs → IsOnStack t f → AreOnStack t fs → IsStepOn p t (instruction_step p t f fs os thread)
instructed p t f fs [] thread is on rest = ended p t _
instructed p t f fs (o ∷ os) thread is on rest = effected p t thread f fs (effect p f.run o) is on rest (effect_keeps p t f.run o on)

-- a step that costs a unit
paid_on : (p : Program) (t : ℕ) (calls : List ScriptCall) (over : List Ending) (fuel : ℕ) (due : Option Outcome) (frames : List Frame) (go : Thread → Step)
    → ((n : ℕ) → IsStepOn p t (go (record { calls = calls; ended = over; fuel = n; due = due; frames = frames })))
    → IsStepOn p t (if_paid (record { calls = calls; ended = over; fuel = fuel; due = due; frames = frames }) go)
paid_on p t calls over zero due frames go h = ended p t _
paid_on p t calls over (suc n) due frames go h = h n

run_on : (p : Program) (t : ℕ) (f : Frame) (fs : List Frame) (thread : Thread) → thread.frames ≡ f ∷ fs → IsOnStack t f → AreOnStack t fs
    → IsStepOn p t (if_paid thread (instruction_step p t f fs f.run.code))
run_on p t f fs thread is on rest =
    paid_on p t thread.calls thread.ended thread.fuel thread.due thread.frames (instruction_step p t f fs f.run.code) (λ n. instructed p t f fs f.run.code _ is on rest)

-- an action is asked for
acted : (p : Program) (t : ℕ) (n : ℕ) (thread : Thread) (r : Request) → AreOnStack t thread.frames → is_servable_what p t r.what ≡ true → IsAbove (top_of_stack t thread.frames) r.what
    → IsStepOn p t (if_paid thread (λ poorer. Asks poorer r))
acted p t n thread r on servable above =
    paid_on p t thread.calls thread.ended thread.fuel thread.due thread.frames (λ poorer. Asks poorer r) (λ m. record { servable = servable; above = above; frames_on = on })

pub left_on : (t : ℕ) (v : Option Word) (fs : List Frame) (thread : Thread) → AreOnStack t fs → AreOnStack t (after_leaving v fs thread).frames
left_on t v [] thread rest = tt
left_on t v (f ∷ fs) thread rest = rest

posted : (p : Program) (t : ℕ) (b : Bool) (f : Frame) (fs : List Frame) (c : Crossing) (k : ℕ) (v : Option Word) (thread : Thread) → AreOnStack t thread.frames → AreOnStack t fs
    → IsStepOn p t (post_step b f fs c k v thread)
posted p t true f fs c k v thread on rest = acted p t k thread (post_action f c k v) on refl tt
posted p t false f fs c k v thread on rest = left_on t v fs thread rest

staged : (p : Program) (t : ℕ) (f : Frame) (fs : List Frame) (c : Crossing) (s : Stage) (thread : Thread) → thread.frames ≡ f ∷ fs → AreOnStack t thread.frames → IsOnStack t f → AreOnStack t fs
    → IsStepOn p t (stage_step p t f fs c s thread)
staged p t f fs c (Pre k) thread is all on rest = acted p t k thread (pre_action f c k) all refl tt
staged p t f fs c Body thread is all on rest = run_on p t f fs thread is on rest
staged p t f fs c (Post k v) thread is all on rest = posted p t (has_action p c.function true k) f fs c k v thread all rest

framed : (p : Program) (t : ℕ) (f : Frame) (fs : List Frame) (c : Option Crossing) (thread : Thread) → thread.frames ≡ f ∷ fs → AreOnStack t thread.frames → IsOnStack t f → AreOnStack t fs
    → IsStepOn p t (frame_step p t f fs c thread)
framed p t f fs None thread is all on rest = run_on p t f fs thread is on rest
framed p t f fs (Some c) thread is all on rest = staged p t f fs c c.stage thread is all on rest

started : (p : Program) (t : ℕ) (calls : List ScriptCall) (thread : Thread) → AreOnStack t thread.frames → IsStepOn p t (start_step calls thread)
started p t [] thread all = ended p t _
started p t (c ∷ cs) thread all = acted p t 0 thread (request Kernel (what.Enter (Script c.function) c.args)) all refl tt

undue_on : (p : Program) (t : ℕ) (frames : List Frame) (thread : Thread) → thread.frames ≡ frames → AreOnStack t thread.frames → AreOnStack t frames → IsStepOn p t (undue_step p t frames thread)
undue_on p t [] thread is all h = started p t thread.calls thread all
undue_on p t (f ∷ fs) thread is all h = framed p t f fs f.crossing thread is all h.0 h.1

due_on : (p : Program) (t : ℕ) (due : Option Outcome) (thread : Thread) (s : Step) → AreOnStack t thread.frames → IsStepOn p t s → IsStepOn p t (due_or due thread s)
due_on p t None thread s all h = h
due_on p t (Some o) thread s all h = record { servable = refl; above = tt; frames_on = all }

step_on : (p : Program) (t : ℕ) (thread : Thread) → AreOnStack t thread.frames → IsStepOn p t (step p t thread)
step_on p t thread all = due_on p t thread.due thread (undue_step p t thread.frames thread) all (undue_on p t thread.frames thread refl all all)

abbrev pub IsAskingOn : Program → ℕ → Asking → Type 0
IsAskingOn p t a = IsAskedOn p t a.thread.frames a.request

goes_on : (p : Program) (t n : ℕ) (s : Step) → IsStepOn p t s → ((more : Thread) → AreOnStack t more.frames → IsAskingOn p t (next_within n p t more))
    → IsAskingOn p t (elim s [ Goes more ↦ next_within n p t more | Asks more r ↦ record { thread = more; request = r } ])
goes_on p t n (Goes more) h k = k more h
goes_on p t n (Asks more r) h k = h

within_on : (n : ℕ) (p : Program) (t : ℕ) (thread : Thread) → AreOnStack t thread.frames → IsAskingOn p t (next_within n p t thread)
within_on zero p t thread all = record { servable = refl; above = tt; frames_on = all }
within_on (suc n) p t thread all = goes_on p t n (step p t thread) (step_on p t thread all) (λ more h. within_on n p t more h)

pub next_on : (p : Program) (t : ℕ) (thread : Thread) → AreOnStack t thread.frames → IsAskingOn p t (next p t thread)
next_on p t thread all = within_on (2 * thread.fuel + length thread.frames + 1) p t thread all

pub next_servable : (p : Program) (t : ℕ) (thread : Thread) → t < 16 → AreOnStack t thread.frames → is_servable p t (next p t thread).request ≡ true
next_servable p t thread small all = and_from (nat_lt t 16) (is_servable_what p t (next p t thread).request.what) (below_16 t small) (next_on p t thread all).servable
