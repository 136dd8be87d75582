-- Each step of an image thread, of whatever code, leaves fewer steps, also where the marks of its next instruction have been taken.
use Rattle.std.proofs.Common.{◌≡◌, ℕ, zero, suc, ◌+◌, ◌*◌, ◌<◌, ◌≤◌, Bool, true, false, List, [], ◌∷◌, length, Option, Some, None, refl, arith}
use Rattle.lx_words.specs.Word.{Word}
use Rattle.lx_caps.specs.declared.Principal.{Principal}
use Rattle.lx_caps.specs.declared.Principal.TheVariants.{Kernel}
use Rattle.lx_ir.specs.declared.instr.Op.{Op}
use Rattle.lx_ir.specs.declared.instr.Op.TheVariants as op
use Rattle.lx_model.specs.declared.program.ScriptCall.{ScriptCall}
use Rattle.lx_model.specs.declared.request.Outcome.{Outcome}
use Rattle.lx_model.specs.declared.request.Outcome.TheVariants.{Trapped}
use Rattle.lx_model.specs.declared.request.Trap.TheVariants.{Unreachable}
use Rattle.lx_model.specs.declared.request.Way.TheVariants.{Script}
use Rattle.lx_model.specs.declared.request.What.TheVariants as what
use Rattle.lx_model.specs.declared.request.Request.{Request}
use Rattle.lx_model.specs.Thread.{Activation}
use Rattle.lx_model.specs.Effect.{Effect, Moves, Wants, Enters, Calls, Traps, effect, text_of}
use Rattle.lx_model.specs.Next.{has_action, request}
use Rattle.lx_images.specs.Image.{Code, ImageFrame, Runs, Wraps, ImageThread, ImageStep, ImageAsking, Goes, Asks, Marks, no_marks, if_paid, if_room, has_room, comes_to, effect_step, wrapped_import, costly_step, one_step, instruction_step, after_leaving, with_shadow, tail, action_line, first_line, leaving_line, wrapper_line, start_step, frame_step, due_or, image_next_within}
use Rattle.lx_images.specs.Wrappers.{called_lines}
use Rattle.lx_image_steps.specs.Marks.{plain_step}
use Rattle.lx_image_steps.specs.Standing.{head_of}
use Rattle.lx_frames.specs.Frames.{marked_frame_step}
use Rattle.lx_interp.specs.Runner.{marked_step}
use Rattle.lx_caps.proofs.Tests.{paid_less}

abbrev pub steps_left : ImageThread → ℕ
steps_left v = 2 * v.fuel + length v.frames

-- a register step leaves fewer steps than these
abbrev pub Falls : ℕ → ImageStep → Type 0
Falls k (Goes v) = steps_left v < k
Falls k (Asks v r) = Unit {0}

falls_asking : (v : ImageThread) (fuel : ℕ) (r : Request) (k : ℕ) → Falls k (if_paid (record v { fuel = fuel }) (λ w. Asks w r))
falls_asking v zero r k = tt
falls_asking v (suc n) r k = tt

falls_paid : (v : ImageThread) (fuel : ℕ) (go : ImageThread → ImageStep) (k : ℕ) → ((n : ℕ) → fuel ≡ suc n → Falls k (go (record v { fuel = n }))) → Falls k (if_paid (record v { fuel = fuel }) go)
falls_paid v zero go k h = tt
falls_paid v (suc n) go k h = h n refl

falls_room : (b : Bool) (v : ImageThread) (s : ImageStep) (k : ℕ) → Falls k s → Falls k (if_room b v s)
falls_room true v s k h = h
falls_room false v s k h = tt

falls_effect : (c : Code) (v : ImageThread) (m : Marks) (a : Activation) (fs : List ImageFrame) (e : Effect) (k : ℕ) → 2 * v.fuel + length fs + 2 < k → Falls k (effect_step c v m a fs e)
falls_effect c v m a fs (Moves b) k h = grind (arith, h)
falls_effect c v m a fs (Wants w) k h = tt
falls_effect c v m a fs (Enters w) k h = falls_room (has_room (Runs a ∷ fs)) v _ k tt
falls_effect c v m a fs (Calls n args) k h = falls_room (has_room (Runs a ∷ fs)) v _ k (grind (arith, h))
falls_effect c v m a fs (Traps trap) k h = tt

falls_first : (v : ImageThread) (n : ℕ) (args : List Word) (fs : List ImageFrame) (lines : List Op) (k : ℕ) → Falls k (first_line v n args fs lines)
falls_first v n args fs [] k = tt
falls_first v n args fs (op.Enter s ∷ lines) k = tt
falls_first v n args fs (o ∷ lines) k = tt

falls_costly : (c : Code) (m : Marks) (a : Activation) (fs : List ImageFrame) (o : Op) (w : Option ℕ) (v : ImageThread) (k : ℕ) → 2 * v.fuel + length fs + 2 < k → Falls k (costly_step c m a fs o w v)
falls_costly c m a fs o (Some n) v k h = falls_room (has_room (Runs a ∷ fs)) v _ k (falls_first v n _ (Runs a ∷ fs) (called_lines c (text_of c.program a) o) k)
falls_costly c m a fs o None v k h = falls_effect c v m a fs (effect c.program a o) k h

falls_instruction : (c : Code) (v : ImageThread) (m : Marks) (a : Activation) (fs : List ImageFrame) (o : Op) (k : ℕ) → 2 * v.fuel + length fs < k →
    Falls k (if_paid v (costly_step c m a fs o (wrapped_import c (text_of c.program a) o)))
falls_instruction c v m a fs o k h =
    falls_paid v v.fuel (costly_step c m a fs o (wrapped_import c (text_of c.program a) o)) k
    (λ n e. falls_costly c m a fs o (wrapped_import c (text_of c.program a) o) (record v { fuel = n }) k (paid_less v.fuel n (length fs) k e h))

falls_one : (c : Code) (v : ImageThread) (m : Marks) (a : Activation) (fs : List ImageFrame) (o : Op) (k : ℕ) (behind : Marks → Activation → ImageStep) →
    ((n : Marks) (b : Activation) → Falls k (behind n b)) → 2 * v.fuel + length fs < k → Falls k (one_step c v m a fs o behind)
falls_one c v m a fs (op.Guard at size narrow) k behind ih h = ih _ _
falls_one c v m a fs (op.Check target) k behind ih h = ih _ _
falls_one c v m a fs o k behind ih h = falls_instruction c v m a fs o k h

falls_code : (c : Code) (v : ImageThread) (fs : List ImageFrame) (k : ℕ) (os : List Op) (m : Marks) (a : Activation) → 2 * v.fuel + length fs < k → Falls k (instruction_step c v fs os m a)
falls_code c v fs k [] m a h = falls_paid v v.fuel (comes_to (Trapped Unreachable)) k (λ n e. tt)
falls_code c v fs k (o ∷ os) m a h = falls_one c v m a fs o k (instruction_step c v fs os) (λ n b. falls_code c v fs k os n b h) h

falls_plain : (c : Code) (v : ImageThread) (fs : List ImageFrame) (k : ℕ) (m : Marks) (a : Activation) (o : Option Op) → 2 * v.fuel + length fs < k → Falls k (plain_step c v fs m a o)
falls_plain c v fs k m a None h = falls_paid v v.fuel (comes_to (Trapped Unreachable)) k (λ n e. tt)
falls_plain c v fs k m a (Some o) h = falls_instruction c v m a fs o k h

falls_leaving : (x : Option Word) (fs : List ImageFrame) (v : ImageThread) (k : ℕ) → 2 * v.fuel + length fs < k → Falls k (Goes (after_leaving x fs v))
falls_leaving x [] v k h = grind (arith, h)
falls_leaving x (Runs a ∷ fs) v k h = grind (arith, h)
falls_leaving x (Wraps n args lines old ∷ fs) v k h = grind (arith, h)

falls_action : (has : Bool) (v : ImageThread) (n : ℕ) (post : Bool) (i : ℕ) (args : List Word) (x : Option Word) (source dest : Principal) (k : ℕ) → Falls k (action_line has v n post i args x source dest)
falls_action true v n post i args x source dest k = falls_asking v v.fuel (request source (what.Perform n post i (record { args = args; ret = x }) source dest)) k
falls_action false v n post i args x source dest k = tt

falls_return : (v : ImageThread) (x : Option Word) (fs : List ImageFrame) (lines : List Op) (k : ℕ) → 2 * v.fuel + length fs < k → Falls k (leaving_line v x fs lines)
falls_return v x fs [] k h = tt
falls_return v x fs (op.Ret r ∷ lines) k h = falls_leaving x fs v k h
falls_return v x fs (o ∷ lines) k h = tt

falls_line : (c : Code) (v : ImageThread) (n : ℕ) (args : List Word) (x : Option Word) (fs : List ImageFrame) (lines : List Op) (k : ℕ) → 2 * v.fuel + length fs < k → Falls k (wrapper_line c v n args x fs lines)
falls_line c v n args x fs [] k h = tt
falls_line c v n args x fs (op.Pre s i ∷ lines) k h = falls_action (has_action c.program n false i) v n false i args None _ _ k
falls_line c v n args x fs (op.Post s i ∷ lines) k h = falls_action (has_action c.program n true i) v n true i args x _ _ k
falls_line c v n args x fs (op.Leave s ∷ lines) k h = falls_return (with_shadow (tail v.shadow) v) x fs lines k h
falls_line c v n args x fs (op.Ret r ∷ lines) k h = falls_leaving x fs v k h
falls_line c v n args x fs (o ∷ lines) k h = tt

falls_start : (calls : List ScriptCall) (v : ImageThread) (k : ℕ) → Falls k (start_step calls v)
falls_start [] v k = tt
falls_start (call ∷ calls) v k = falls_asking v v.fuel (request Kernel (what.Enter (Script call.function) call.args)) k

more_frames : (fuel : ℕ) (f : ImageFrame) (fs : List ImageFrame) → 2 * fuel + length fs < 2 * fuel + length (f ∷ fs)
more_frames fuel f fs = grind arith

falls_frame : (c : Code) (v : ImageThread) (fs : List ImageFrame) → Falls (2 * v.fuel + length fs) (frame_step c v fs)
falls_frame c v [] = falls_start v.calls v _
falls_frame c v (Runs a ∷ fs) = falls_code c v fs _ a.code no_marks a (more_frames v.fuel (Runs a) fs)
falls_frame c v (Wraps n args lines x ∷ fs) = falls_line c v n args x fs lines _ (more_frames v.fuel (Wraps n args lines x) fs)

falls_marked : (c : Code) (m : Option Marks) (v : ImageThread) (fs : List ImageFrame) → Falls (2 * v.fuel + length fs) (marked_frame_step c m v fs)
falls_marked c None v fs = falls_frame c v fs
falls_marked c (Some m) v [] = falls_frame c v []
falls_marked c (Some m) v (Runs a ∷ fs) = falls_plain c v fs _ m a (head_of a.code) (more_frames v.fuel (Runs a) fs)
falls_marked c (Some m) v (Wraps n args lines x ∷ fs) = falls_frame c v (Wraps n args lines x ∷ fs)

falls_due : (due : Option Outcome) (v : ImageThread) (s : ImageStep) (k : ℕ) → Falls k s → Falls k (due_or due v s)
falls_due (Some o) v s k h = tt
falls_due None v s k h = h

pub step_falls : (c : Code) (m : Option Marks) (v : ImageThread) → Falls (steps_left v) (marked_step c m v)
step_falls c m v = falls_due v.due v (marked_frame_step c m v v.frames) (steps_left v) (falls_marked c m v v.frames)

stable_step : (c : Code) (m k : ℕ) (s : ImageStep) → Falls k s → k ≤ m →
    ((w : ImageThread) → steps_left w < m → image_next_within (suc m) c w ≡ image_next_within m c w) →
    ◌≡◌ {A = ImageAsking}
    (elim s [ Goes w ↦ image_next_within (suc m) c w | Asks w r ↦ record { thread = w; request = r } ])
    (elim s [ Goes w ↦ image_next_within m c w | Asks w r ↦ record { thread = w; request = r } ])
stable_step c m k (Goes w) h le ih = ih w (omega (arith, h, le))
stable_step c m k (Asks w r) h le ih = refl

-- with a further step the thread asks the same
pub next_stays : (n : ℕ) (c : Code) (v : ImageThread) → steps_left v < n → image_next_within (suc n) c v ≡ image_next_within n c v
next_stays zero c v h = absurd (omega (arith, h))
next_stays (suc m) c v h =
    stable_step c m (steps_left v) (marked_step c None v) (step_falls c None v) (omega (arith, h)) (λ w lt. next_stays m c w lt)
