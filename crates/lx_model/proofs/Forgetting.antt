-- A thread without its principals takes the same steps.
use Rattle.std.proofs.Common.{◌≡◌, ℕ, zero, suc, ◌+◌, ◌*◌, Bool, true, false, List, [], ◌∷◌, length, map, Option, Some, None, option_map, refl, sym, ap, ◌∙◌, nat_lt}
use Rattle.std.proofs.lemmas.List.{length-map}
use Rattle.lx_words.specs.Word.{Word}
use Rattle.lx_caps.specs.declared.Principal.TheVariants.{Kernel}
use Rattle.lx_ir.specs.declared.module.Symbol.TheVariants as symbol
use Rattle.lx_ir.specs.declared.instr.Callee.{Callee}
use Rattle.lx_ir.specs.declared.instr.Callee.TheVariants as callee
use Rattle.lx_ir.specs.declared.instr.Op.{Op}
use Rattle.lx_ir.specs.declared.instr.Op.TheVariants as op
use Rattle.lx_model.specs.declared.program.Program.{Program}
use Rattle.lx_model.specs.declared.program.ScriptCall.{ScriptCall}
use Rattle.lx_model.specs.declared.request.Outcome.{Outcome}
use Rattle.lx_model.specs.declared.request.Way.TheVariants.{Script}
use Rattle.lx_model.specs.declared.request.What.{What}
use Rattle.lx_model.specs.declared.request.What.TheVariants as what
use Rattle.lx_model.specs.declared.request.Request.{Request}
use Rattle.lx_model.specs.Program.{Target, ToNative, ToSlot, ToImport, ToOwn, Nowhere, target}
use Rattle.lx_model.specs.Thread.{CodeBlock, Activation, Stage, Pre, Body, Post, Crossing, Frame, Ending, Thread}
use Rattle.lx_model.specs.Effect.{Effect, Moves, Wants, Enters, Calls, Traps, effect, division, arrival, slot_effect, target_effect, call_effect, text_of}
use Rattle.lx_model.specs.Next.{Step, Goes, Asks, Asking, if_room, has_room, frame_limit, if_paid, effect_step, instruction_step, post_step, stage_step, frame_step, start_step, undue_step, due_or, step, next_within, next, after_leaving, has_action, pre_action, post_action, request}
use Rattle.lx_model.specs.Plain.{forget_principal, forget_crossing, forget_frame, forget_thread}

-- a request without principals
abbrev pub forget_what : What → What
forget_what (what.Perform n post k env source dest) = what.Perform n post k env (forget_principal source) (forget_principal dest)
forget_what w = w

abbrev pub forget_request : Request → Request
forget_request r = record { who = forget_principal r.who; what = forget_what r.what }

abbrev pub forget_step : Step → Step
forget_step (Goes thread) = Goes (forget_thread thread)
forget_step (Asks thread r) = Asks (forget_thread thread) (forget_request r)

abbrev pub forget_asking : Asking → Asking
forget_asking a = record { thread = forget_thread a.thread; request = forget_request a.request }

-- an instruction asks for nothing that names a principal
abbrev forget_effect : Effect → Effect
forget_effect (Wants w) = Wants (forget_what w)
forget_effect (Enters w) = Enters (forget_what w)
forget_effect e = e

division_free : (a : Activation) (r : Option Word) → forget_effect (division a r) ≡ division a r
division_free a None = refl
division_free a (Some w) = refl

arrival_free : (p : Program) (a : Activation) (b : Option CodeBlock) → forget_effect (arrival p a b) ≡ arrival p a b
arrival_free p a None = refl
arrival_free p a (Some b) = refl

slot_free : (ty : ℕ) (args : List Word) → forget_effect (slot_effect ty args) ≡ slot_effect ty args
slot_free ty [] = refl
slot_free ty (s ∷ args) = refl

target_free : (x : Target) (args : List Word) → forget_effect (target_effect x args) ≡ target_effect x args
target_free (ToNative k) args = refl
target_free (ToSlot s) args = slot_free s args
target_free (ToImport n) args = refl
target_free (ToOwn n) args = refl
target_free Nowhere args = refl

call_free : (p : Program) (a : Activation) (f : Callee) (args : List Word) → forget_effect (call_effect p a f args) ≡ call_effect p a f args
call_free p a (callee.Symbol (symbol.Function f)) args = target_free (target p (text_of p a) f) args
call_free p a (callee.Symbol (symbol.Global g)) args = refl
call_free p a (callee.Register r) args = refl

effect_free : (p : Program) (a : Activation) (o : Op) → forget_effect (effect p a o) ≡ effect p a o
effect_free p a (op.Binary to o ty x y) = division_free a _
effect_free p a (op.Compare to pred ty x y) = refl
effect_free p a (op.Convert to how from x into) = refl
effect_free p a (op.Unary to o ty x) = refl
effect_free p a (op.Select to condition ty x y) = refl
effect_free p a (op.Phi to ty edges) = refl
effect_free p a (op.Alloca to ty) = refl
effect_free p a (op.Load to ty at) = refl
effect_free p a (op.Store ty v at) = refl
effect_free p a (op.GetElementPtr to ty base indices) = refl
effect_free p a (op.Call to ret f args) = call_free p a f _
effect_free p a (op.CopyBlock moves dest source len) = refl
effect_free p a (op.FillBlock dest byte len) = refl
effect_free p a (op.Ret v) = refl
effect_free p a (op.Jump label) = arrival_free p a _
effect_free p a (op.Branch condition first second) = arrival_free p a _
effect_free p a (op.Switch ty v otherwise cases) = arrival_free p a _
effect_free p a op.Unreachable = refl
effect_free p a (op.Guard at size narrow) = refl
effect_free p a (op.Check x) = refl
effect_free p a (op.Enter f) = refl
effect_free p a (op.Pre f k) = refl
effect_free p a (op.Post f k) = refl
effect_free p a (op.Leave f) = refl

-- as many frames
same_room : (fs : List Frame) → has_room (map forget_frame fs) ≡ has_room fs
same_room fs = ap (λ n. nat_lt n frame_limit) (length-map fs forget_frame)

room_alike : (b : Bool) (thread : Thread) (s s' : Step) → s' ≡ forget_step s → if_room b (forget_thread thread) s' ≡ forget_step (if_room b thread s)
room_alike true thread s s' e = e
room_alike false thread s s' e = refl

roomy : (fs : List Frame) (thread : Thread) (s s' : Step) → s' ≡ forget_step s → if_room (has_room (map forget_frame fs)) (forget_thread thread) s' ≡ forget_step (if_room (has_room fs) thread s)
roomy fs thread s s' e =
    ap (λ b. if_room b (forget_thread thread) s') (same_room fs) ∙ room_alike (has_room fs) thread s s' e

effect_alike : (p : Program) (t : ℕ) (thread : Thread) (f : Frame) (fs : List Frame) (e : Effect) →
    effect_step p t (forget_thread thread) (forget_frame f) (map forget_frame fs) (forget_effect e) ≡ forget_step (effect_step p t thread f fs e)
effect_alike p t thread f fs (Moves a) = refl
effect_alike p t thread f fs (Wants w) = refl
effect_alike p t thread f fs (Enters w) = roomy (f ∷ fs) thread _ _ refl
effect_alike p t thread f fs (Calls n args) = roomy (f ∷ fs) thread _ _ refl
effect_alike p t thread f fs (Traps trap) = refl

instruction_alike : (p : Program) (t : ℕ) (f : Frame) (fs : List Frame) (code : List Op) (thread : Thread) →
    instruction_step p t (forget_frame f) (map forget_frame fs) code (forget_thread thread) ≡ forget_step (instruction_step p t f fs code thread)
instruction_alike p t f fs [] thread = refl
instruction_alike p t f fs (o ∷ os) thread =
    ap (λ e. effect_step p t (forget_thread thread) (forget_frame f) (map forget_frame fs) e) (sym (effect_free p f.run o))
    ∙ effect_alike p t thread f fs (effect p f.run o)

paid_alike : (calls : List ScriptCall) (ended : List Ending) (fuel : ℕ) (due : Option Outcome) (frames : List Frame) (go go' : Thread → Step) →
    ((further : Thread) → go' (forget_thread further) ≡ forget_step (go further)) →
    if_paid (forget_thread (record { calls = calls; ended = ended; fuel = fuel; due = due; frames = frames })) go' ≡ forget_step (if_paid (record { calls = calls; ended = ended; fuel = fuel; due = due; frames = frames }) go)
paid_alike calls ended zero due frames go go' h = refl
paid_alike calls ended (suc n) due frames go go' h = h _

pub leaving_alike : (v : Option Word) (fs : List Frame) (thread : Thread) → after_leaving v (map forget_frame fs) (forget_thread thread) ≡ forget_thread (after_leaving v fs thread)
leaving_alike v [] thread = refl
leaving_alike v (f ∷ fs) thread = refl

post_alike : (more : Bool) (f : Frame) (fs : List Frame) (c : Crossing) (k : ℕ) (v : Option Word) (thread : Thread) →
    post_step more (forget_frame f) (map forget_frame fs) (forget_crossing c) k v (forget_thread thread) ≡ forget_step (post_step more f fs c k v thread)
post_alike true f fs c k v thread =
    paid_alike thread.calls thread.ended thread.fuel thread.due thread.frames (λ x. Asks x (post_action f c k v))
    (λ x. Asks x (post_action (forget_frame f) (forget_crossing c) k v)) (λ further. refl)
post_alike false f fs c k v thread = ap Goes (leaving_alike v fs thread)

stage_alike : (p : Program) (t : ℕ) (f : Frame) (fs : List Frame) (c : Crossing) (s : Stage) (thread : Thread) →
    stage_step p t (forget_frame f) (map forget_frame fs) (forget_crossing c) s (forget_thread thread) ≡ forget_step (stage_step p t f fs c s thread)
stage_alike p t f fs c (Pre k) thread =
    paid_alike thread.calls thread.ended thread.fuel thread.due thread.frames (λ x. Asks x (pre_action f c k))
    (λ x. Asks x (pre_action (forget_frame f) (forget_crossing c) k)) (λ further. refl)
stage_alike p t f fs c Body thread =
    paid_alike thread.calls thread.ended thread.fuel thread.due thread.frames (instruction_step p t f fs f.run.code)
    (instruction_step p t (forget_frame f) (map forget_frame fs) f.run.code) (λ further. instruction_alike p t f fs f.run.code further)
stage_alike p t f fs c (Post k v) thread = post_alike (has_action p c.function true k) f fs c k v thread

frame_alike : (p : Program) (t : ℕ) (f : Frame) (fs : List Frame) (c : Option Crossing) (thread : Thread) →
    frame_step p t (forget_frame f) (map forget_frame fs) (option_map forget_crossing c) (forget_thread thread) ≡ forget_step (frame_step p t f fs c thread)
frame_alike p t f fs None thread =
    paid_alike thread.calls thread.ended thread.fuel thread.due thread.frames (instruction_step p t f fs f.run.code)
    (instruction_step p t (forget_frame f) (map forget_frame fs) f.run.code) (λ further. instruction_alike p t f fs f.run.code further)
frame_alike p t f fs (Some c) thread = stage_alike p t f fs c c.stage thread

start_alike : (calls : List ScriptCall) (thread : Thread) → start_step calls (forget_thread thread) ≡ forget_step (start_step calls thread)
start_alike [] thread = refl
start_alike (c ∷ cs) thread =
    paid_alike thread.calls thread.ended thread.fuel thread.due thread.frames
    (λ x. Asks x (request Kernel (what.Enter (Script c.function) c.args)))
    (λ x. Asks x (request Kernel (what.Enter (Script c.function) c.args))) (λ further. refl)

undue_alike : (p : Program) (t : ℕ) (fs : List Frame) (thread : Thread) → undue_step p t (map forget_frame fs) (forget_thread thread) ≡ forget_step (undue_step p t fs thread)
undue_alike p t [] thread = start_alike thread.calls thread
undue_alike p t (f ∷ fs) thread = frame_alike p t f fs f.crossing thread

due_alike : (due : Option Outcome) (thread : Thread) (s s' : Step) → s' ≡ forget_step s → due_or due (forget_thread thread) s' ≡ forget_step (due_or due thread s)
due_alike None thread s s' e = e
due_alike (Some o) thread s s' e = refl

pub step_alike : (p : Program) (t : ℕ) (thread : Thread) → step p t (forget_thread thread) ≡ forget_step (step p t thread)
step_alike p t thread = due_alike thread.due thread _ _ (undue_alike p t thread.frames thread)

-- the next request of a thread that steps so
abbrev pub behind : ℕ → Program → ℕ → Step → Asking
behind n p t s = elim s [ Goes further ↦ next_within n p t further | Asks further r ↦ record { thread = further; request = r } ]

behind_alike : (n : ℕ) (p : Program) (t : ℕ) (s : Step) → ((thread : Thread) → next_within n p t (forget_thread thread) ≡ forget_asking (next_within n p t thread)) → behind n p t (forget_step s) ≡ forget_asking (behind n p t s)
behind_alike n p t (Goes thread) h = h thread
behind_alike n p t (Asks thread r) h = refl

within_alike : (n : ℕ) (p : Program) (t : ℕ) (thread : Thread) → next_within n p t (forget_thread thread) ≡ forget_asking (next_within n p t thread)
within_alike zero p t thread = refl
within_alike (suc n) p t thread =
    ap (behind n p t) (step_alike p t thread) ∙ behind_alike n p t (step p t thread) (within_alike n p t)

-- a thread without principals asks for the same, without principals
pub next_alike : (p : Program) (t : ℕ) (thread : Thread) → next p t (forget_thread thread) ≡ forget_asking (next p t thread)
next_alike p t thread =
    ap (λ n. next_within (2 * thread.fuel + n + 1) p t (forget_thread thread)) (length-map thread.frames forget_frame)
    ∙ within_alike (2 * thread.fuel + length thread.frames + 1) p t thread
