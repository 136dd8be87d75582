-- What a thread of images asks whose functions keep to its stack.
use Rattle.std.proofs.Common.{◌≡◌, ℕ, zero, suc, ◌+◌, ◌*◌, ◌<◌, Bool, true, false, Option, Some, None, List, [], ◌∷◌, length, refl}
use Rattle.std.specs.Prelude.{nat_lt}
use Rattle.std.proofs.lemmas.Bool.{and_from}
use Rattle.lx_words.specs.Word.{Word}
use Rattle.lx_caps.specs.declared.Principal.{Principal}
use Rattle.lx_caps.specs.declared.Principal.TheVariants.{Kernel}
use Rattle.lx_ir.specs.declared.instr.Op.{Op}
use Rattle.lx_ir.specs.declared.instr.Op.TheVariants as op
use Rattle.lx_model.specs.declared.program.ScriptCall.{ScriptCall}
use Rattle.lx_model.specs.declared.request.Outcome.{Outcome}
use Rattle.lx_model.specs.declared.request.Outcome.TheVariants.{Trapped}
use Rattle.lx_model.specs.declared.request.Trap.TheVariants.{Unreachable}
use Rattle.lx_model.specs.declared.request.Request.{Request}
use Rattle.lx_model.specs.declared.request.Way.TheVariants.{Script, Direct}
use Rattle.lx_model.specs.declared.request.What.TheVariants as what
use Rattle.lx_model.specs.Thread.{Activation, Ending, activation_behind}
use Rattle.lx_model.specs.Effect.{Effect, Moves, Wants, Enters, Calls, Traps, effect, text_of}
use Rattle.lx_model.specs.Next.{finish, has_action, request}
use Rattle.lx_run_laws.specs.Servable.{is_servable, is_servable_what}
use Rattle.lx_run_laws.proofs.Effects.{IsAbove, KeepsPart, effect_keeps}
use Rattle.lx_run_laws.proofs.Steps.{top_on, moved_on}
use Rattle.lx_images.specs.Image.{Code, ImageFrame, Runs, Wraps, ImageThread, ImageStep, Goes, Asks, ImageAsking, Marks, no_marks, action_line, after_leaving, below_top, comes_to, costly_step, due_or, effect_step, first_line, frame_step, has_room, if_paid, if_room, image_next, image_next_within, image_step, instruction_step, leaving_line, one_step, stack_top, start_step, tail, top, with_shadow, wrapped_import, wrapper_args, wrapper_line}
use Rattle.lx_images.specs.Wrappers.{called_lines}
use Rattle.lx_world.specs.OnImageStack.{IsOnImageStack, AreOnImageStack}
use Rattle.lx_world.proofs.Wrapped.{wrapped_in}
use Rattle.lx_caps.proofs.Tests.{below_16}

-- what a thread with these frames asks
pub record IsAskedOn (c : Code) (t : ℕ) (frames : List ImageFrame) (r : Request) : Type 0 where
  pub servable : is_servable_what c.program t r.what ≡ true
  pub above : IsAbove (stack_top t frames) r.what
  pub frames_on : AreOnImageStack t frames

abbrev IsStepOn : Code → ℕ → ImageStep → Type 0
IsStepOn c t (Goes v) = AreOnImageStack t v.frames
IsStepOn c t (Asks v r) = IsAskedOn c t v.frames r

-- the end of a call is asked for without frames
ended : (c : Code) (t : ℕ) (o : Outcome) → IsAskedOn c t [] (finish o)
ended c t o = record { servable = refl; above = tt; frames_on = tt }

roomed : (c : Code) (t : ℕ) (b : Bool) (v : ImageThread) (s : ImageStep) → IsStepOn c t s → IsStepOn c t (if_room b v s)
roomed c t true v s h = h
roomed c t false v s h = ended c t _

effected : (c : Code) (t : ℕ) (v : ImageThread) (m : Marks) (a : Activation) (fs : List ImageFrame) (e : Effect) → IsOnImageStack t (Runs a) → AreOnImageStack t fs
    → KeepsPart c.program t a e → IsStepOn c t (effect_step c v m a fs e)
effected c t v m a fs (Moves b) on rest h = (moved_on t a.low a.high b.low b.high on h.0 h.1, rest)
effected c t v m a fs (Wants w) on rest h = record { servable = h.0; above = h.1; frames_on = (on, rest) }
effected c t v m a fs (Enters w) on rest h = roomed c t (has_room (Runs a ∷ fs)) v _ (record { servable = h.0; above = h.1; frames_on = (on, rest) })
effected c t v m a fs (Calls n args) on rest h = roomed c t (has_room (Runs a ∷ fs)) v _ (top_on t a.low a.high on, (on, rest))
effected c t v m a fs (Traps trap) on rest h = ended c t _

-- the call of a wrapper whose first line is its enter, and of any other
called_on : (c : Code) (t : ℕ) (v : ImageThread) (n : ℕ) (args : List Word) (fs : List ImageFrame) (lines : List Op) → is_servable_what c.program t (what.Enter (Direct n) args) ≡ true
    → AreOnImageStack t fs → IsStepOn c t (first_line v n args fs lines)
called_on c t v n args fs (op.Enter s ∷ lines) is rest = record { servable = is; above = tt; frames_on = (tt, rest) }
called_on c t v n args fs lines is rest = ended c t _

-- an instruction, which may be the call of a wrapper
costed : (c : Code) (t : ℕ) (m : Marks) (a : Activation) (fs : List ImageFrame) (o : Op) (w : Option ℕ) (v : ImageThread) → wrapped_import c (text_of c.program a) o ≡ w
    → IsOnImageStack t (Runs a) → AreOnImageStack t fs → IsStepOn c t (costly_step c m a fs o w v)
costed c t m a fs o None v is on rest = effected c t v m a fs (effect c.program a o) on rest (effect_keeps c.program t a o on)
costed c t m a fs o (Some n) v is on rest =
    roomed c t (has_room (Runs a ∷ fs)) v _
    (called_on c t v n (wrapper_args c a o) (Runs a ∷ fs) (called_lines c (text_of c.program a) o) (wrapped_in c (text_of c.program a) o n is) (on, rest))

-- a step that costs a unit
paid_from : (c : Code) (t : ℕ) (calls : List ScriptCall) (over : List Ending) (fuel : ℕ) (due : Option Outcome) (frames : List ImageFrame) (shadow : List Principal) (go : ImageThread → ImageStep)
    → ((n : ℕ) → IsStepOn c t (go (record { calls = calls; ended = over; fuel = n; due = due; frames = frames; shadow = shadow })))
    → IsStepOn c t (if_paid (record { calls = calls; ended = over; fuel = fuel; due = due; frames = frames; shadow = shadow }) go)
paid_from c t calls over zero due frames shadow go h = ended c t _
paid_from c t calls over (suc n) due frames shadow go h = h n

paid_on : (c : Code) (t : ℕ) (v : ImageThread) (go : ImageThread → ImageStep) → ((n : ℕ) → IsStepOn c t (go (record v { fuel = n }))) → IsStepOn c t (if_paid v go)
paid_on c t v go h = paid_from c t v.calls v.ended v.fuel v.due v.frames v.shadow go h

abbrev GoesOnFrom : Code → ℕ → (Marks → Activation → ImageStep) → Type 0
GoesOnFrom c t behind = (m : Marks) (a : Activation) → IsOnImageStack t (Runs a) → IsStepOn c t (behind m a)

-- a guard and a check go on behind them, and any other instruction costs a unit
one_on : (c : Code) (t : ℕ) (v : ImageThread) (m : Marks) (a : Activation) (fs : List ImageFrame) (o : Op) (behind : Marks → Activation → ImageStep)
    → IsOnImageStack t (Runs a) → AreOnImageStack t fs → GoesOnFrom c t behind → IsStepOn c t (one_step c v m a fs o behind)
one_on c t v m a fs (op.Guard at size narrow) behind on rest h = h _ (activation_behind None a) on
one_on c t v m a fs (op.Check target) behind on rest h = h _ (activation_behind None a) on
one_on c t v m a fs o behind on rest h = paid_on c t v (costly_step c m a fs o (wrapped_import c (text_of c.program a) o)) (λ n. costed c t m a fs o (wrapped_import c (text_of c.program a) o) (record v { fuel = n }) refl on rest)

instructed : (c : Code) (t : ℕ) (v : ImageThread) (fs : List ImageFrame) (os : List Op) → AreOnImageStack t fs → GoesOnFrom c t (instruction_step c v fs os)
instructed c t v fs [] rest = λ m a on. paid_on c t v (comes_to (Trapped Unreachable)) (λ n. ended c t (Trapped Unreachable))
instructed c t v fs (o ∷ os) rest = λ m a on. one_on c t v m a fs o (instruction_step c v fs os) on rest (instructed c t v fs os rest)

-- an action is asked for, where there is one
performed : (c : Code) (t : ℕ) (b : Bool) (v : ImageThread) (n : ℕ) (post : Bool) (k : ℕ) (args : List Word) (x : Option Word) (source dest : Principal) → AreOnImageStack t v.frames
    → IsStepOn c t (action_line b v n post k args x source dest)
performed c t true v n post k args x source dest all =
    paid_on c t v (λ w. Asks w (request source (what.Perform n post k (record { args = args; ret = x }) source dest))) (λ m. record { servable = refl; above = tt; frames_on = all })
performed c t false v n post k args x source dest all = ended c t _

pub left_on : (t : ℕ) (x : Option Word) (fs : List ImageFrame) (v : ImageThread) → AreOnImageStack t fs → AreOnImageStack t (after_leaving x fs v).frames
left_on t x [] v rest = tt
left_on t x (Runs a ∷ fs) v rest = rest
left_on t x (Wraps n args lines old ∷ fs) v rest = rest

-- a wrapper is left by its `ret`
leaving_on : (c : Code) (t : ℕ) (v : ImageThread) (x : Option Word) (fs : List ImageFrame) (lines : List Op) → AreOnImageStack t fs → IsStepOn c t (leaving_line v x fs lines)
leaving_on c t v x fs (op.Ret r ∷ lines) rest = left_on t x fs v rest
leaving_on c t v x fs lines rest = ended c t _

lined : (c : Code) (t : ℕ) (v : ImageThread) (n : ℕ) (args : List Word) (x : Option Word) (fs : List ImageFrame) (lines : List Op) → AreOnImageStack t v.frames → AreOnImageStack t fs
    → IsStepOn c t (wrapper_line c v n args x fs lines)
lined c t v n args x fs (op.Pre s k ∷ lines) all rest = performed c t (has_action c.program n false k) v n false k args None (below_top v.shadow) (top v.shadow) all
lined c t v n args x fs (op.Post s k ∷ lines) all rest = performed c t (has_action c.program n true k) v n true k args x (top v.shadow) (below_top v.shadow) all
lined c t v n args x fs (op.Leave s ∷ lines) all rest = leaving_on c t (with_shadow (tail v.shadow) v) x fs lines rest
lined c t v n args x fs (op.Ret r ∷ lines) all rest = left_on t x fs v rest
lined c t v n args x fs lines all rest = ended c t _

started : (c : Code) (t : ℕ) (calls : List ScriptCall) (v : ImageThread) → AreOnImageStack t v.frames → IsStepOn c t (start_step calls v)
started c t [] v all = ended c t _
started c t (call ∷ calls) v all =
    paid_on c t v (λ w. Asks w (request Kernel (what.Enter (Script call.function) call.args))) (λ n. record { servable = refl; above = tt; frames_on = all })

framed : (c : Code) (t : ℕ) (v : ImageThread) (fs : List ImageFrame) → AreOnImageStack t v.frames → AreOnImageStack t fs → IsStepOn c t (frame_step c v fs)
framed c t v [] all h = started c t v.calls v all
framed c t v (Runs a ∷ fs) all h = instructed c t v fs a.code h.1 no_marks a h.0
framed c t v (Wraps n args lines x ∷ fs) all h = lined c t v n args x fs lines all h.1

due_on : (c : Code) (t : ℕ) (due : Option Outcome) (v : ImageThread) (s : ImageStep) → AreOnImageStack t v.frames → IsStepOn c t s → IsStepOn c t (due_or due v s)
due_on c t None v s all h = h
due_on c t (Some o) v s all h = record { servable = refl; above = tt; frames_on = all }

step_on : (c : Code) (t : ℕ) (v : ImageThread) → AreOnImageStack t v.frames → IsStepOn c t (image_step c v)
step_on c t v all = due_on c t v.due v (frame_step c v v.frames) all (framed c t v v.frames all all)

abbrev pub IsAskingOn : Code → ℕ → ImageAsking → Type 0
IsAskingOn c t a = IsAskedOn c t a.thread.frames a.request

goes_on : (c : Code) (t n : ℕ) (s : ImageStep) → IsStepOn c t s → ((w : ImageThread) → AreOnImageStack t w.frames → IsAskingOn c t (image_next_within n c w))
    → IsAskingOn c t (elim s [ Goes w ↦ image_next_within n c w | Asks w r ↦ record { thread = w; request = r } ])
goes_on c t n (Goes w) h k = k w h
goes_on c t n (Asks w r) h k = h

within_on : (n : ℕ) (c : Code) (t : ℕ) (v : ImageThread) → AreOnImageStack t v.frames → IsAskingOn c t (image_next_within n c v)
within_on zero c t v all = record { servable = refl; above = tt; frames_on = all }
within_on (suc n) c t v all = goes_on c t n (image_step c v) (step_on c t v all) (λ w h. within_on n c t w h)

pub next_on : (c : Code) (t : ℕ) (v : ImageThread) → AreOnImageStack t v.frames → IsAskingOn c t (image_next c v)
next_on c t v all = within_on (2 * v.fuel + length v.frames + 1) c t v all

pub next_servable : (c : Code) (t : ℕ) (v : ImageThread) → t < 16 → AreOnImageStack t v.frames → is_servable c.program t (image_next c v).request ≡ true
next_servable c t v small all = and_from (nat_lt t 16) (is_servable_what c.program t (image_next c v).request.what) (below_16 t small) (next_on c t v all).servable
