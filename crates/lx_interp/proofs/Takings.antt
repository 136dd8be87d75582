-- Steps as the runner takes them.
use Rattle.std.proofs.Common.{◌≡◌, ℕ, zero, suc, ◌-◌, ◌<◌, Bool, true, false, Option, Some, None, IsSome, List, [], ◌∷◌, length, map, drop, get_or, IsTrue, refl, sym, ap, ◌∙◌, subst, arith}
use Rattle.std.specs.Prelude.{slice_get}
use Rattle.lx_words.specs.Word.{Word}
use Rattle.lx_caps.specs.declared.Principal.{Principal}
use Rattle.lx_caps.specs.declared.Principal.TheVariants.{Kernel}
use Rattle.lx_ir.specs.declared.instr.Op.{Op}
use Rattle.lx_ir.specs.declared.instr.Op.TheVariants as op
use Rattle.lx_model.specs.declared.program.ScriptCall.{ScriptCall}
use Rattle.lx_model.specs.declared.request.Outcome.{Outcome}
use Rattle.lx_model.specs.declared.request.Outcome.TheVariants.{Budget, Trapped}
use Rattle.lx_model.specs.declared.request.Trap.{Trap}
use Rattle.lx_model.specs.declared.request.Trap.TheVariants.{TooDeep, Unreachable}
use Rattle.lx_model.specs.declared.request.Request.{Request}
use Rattle.lx_model.specs.declared.request.Way.TheVariants.{Direct, Script}
use Rattle.lx_model.specs.declared.request.What.{What}
use Rattle.lx_model.specs.declared.request.What.TheVariants as what
use Rattle.lx_model.specs.Thread.{Ending, activation_behind, has_call}
use Rattle.lx_model.specs.Effect.{Traps, arrival}
use Rattle.lx_model.specs.Next.{request, has_action}
use Rattle.lx_images.specs.Image.{Code, ImageFrame, Runs, Wraps, ImageThread, ImageStep, Goes, Asks, Marks, comes_to, effect_step, first_line, frame_step, has_room, if_paid, if_room, start_step, top as top_of, with_frames}
use Rattle.lx_image_code.specs.Wrappers.{first_op, line_of}
use Rattle.lx_image_steps.specs.Standing.{run_of}
use Rattle.lx_image_steps.specs.declared.activation.Activation.{Activation as Running}
use Rattle.lx_image_steps.specs.declared.effect.Effect.TheVariants as found
use Rattle.lx_frames.specs.declared.frame.Frame.{Frame as KeptFrame}
use Rattle.lx_frames.specs.declared.frame.Frame.TheVariants as kept
use Rattle.lx_frames.specs.declared.stack.FrameStack.{FrameStack}
use Rattle.lx_interp.specs.declared.runner.Runner.{Runner}
use Rattle.lx_frames.specs.Frames.{Stack, args_on, arrival_in, changed, frame_of, frames_of, function_on, line_on, running_on, runs, value_on}
use Rattle.lx_frames.specs.Stack.{CanGoOn, HasRoomFor, IsReadyIf, IsRoomier}
use Rattle.lx_interp.specs.Runner.{HasStayed, HasTaken, action_of, action_on, asked_by, asker_in, calls_left, effect_in, is_enter, poorer, taken, thread_of, wrapper_in}
use Rattle.lx_interp.proofs.Lines.{acts, no_action, paid_step, unpaid_step}

-- the same step, taken from another state of the same thread
pub retaken : (c : Code) (old mid new : Runner) (s from : ImageStep) → mid.thread ≡ old.thread → mid.calls ≡ old.calls → mid.endings ≡ old.endings → s ≡ from → HasTaken c mid new from → HasTaken c old new s
retaken c old mid new s from e0 e1 e2 e h =
    record { number = h.number ∙ e0; calls = h.calls ∙ e1; ended = h.ended ∙ e2; marks = h.marks; is = e ∙ h.is; ready = h.ready }

pub taken_as : (c : Code) (old new : Runner) (s from : ImageStep) → s ≡ from → HasTaken c old new from → HasTaken c old new s
taken_as c old new s from e h = retaken c old old new s from refl refl refl e h

-- without fuel the call comes to its budget's end
pub budget : (c : Code) (old new : Runner) (go : ImageThread → ImageStep) → old.fuel ≡ 0 → HasTaken c old new (comes_to Budget (thread_of c old)) → HasTaken c old new (if_paid (thread_of c old) go)
budget c old new go e h = taken_as c old new _ _ (unpaid_step (thread_of c old) go e) h

pub paid_taken : (c : Code) (old new : Runner) (go : ImageThread → ImageStep) → 0 < old.fuel → HasTaken c old new (go (poorer (thread_of c old))) → HasTaken c old new (if_paid (thread_of c old) go)
paid_taken c old new go e h = taken_as c old new _ _ (paid_step (thread_of c old) go e) h

-- the thread of a runner by its parts
pub thread_is : (c : Code) (r : Runner) (calls : List ScriptCall) (ended : List Ending) (fuel : ℕ) (due : Option Outcome) (frames : List ImageFrame) (shadow : List Principal) →
    calls_left r ≡ calls → r.endings.items ≡ ended → r.fuel ≡ fuel → r.due ≡ due → frames_of c r.stack.top r.stack.below ≡ frames → r.stack.shadow.principals ≡ shadow →
    thread_of c r ≡ record { calls = calls; ended = ended; fuel = fuel; due = due; frames = frames; shadow = shadow }
thread_is c r calls ended fuel due frames shadow e0 e1 e2 e3 e4 e5 =
    λ j. record { calls = e0 j; ended = e1 j; fuel = e2 j; due = e3 j; frames = e4 j; shadow = e5 j }

pub left_same : (old new : Runner) → new.calls ≡ old.calls → new.endings ≡ old.endings → calls_left new ≡ calls_left old
left_same old new calls ended =
    ap (λ (xs : List ScriptCall). drop (length new.endings.items) xs) calls ∙ ap (λ v. drop (length v.items) old.calls) ended

-- more room changes no step
pub same_state : (c : Code) (old new : Runner) → new.calls ≡ old.calls → new.endings ≡ old.endings → new.fuel ≡ old.fuel → new.due ≡ old.due → IsRoomier c old.stack new.stack → thread_of c new ≡ thread_of c old
same_state c old new e1 e2 e3 e4 h = thread_is c new _ _ _ _ _ _ (left_same old new e1 e2) (ap (λ v. v.items) e2) e3 e4 h.frames h.shadow

pub roomier_stays : (c : Code) (old new : Runner) → old.request ≡ None → new.thread ≡ old.thread → new.calls ≡ old.calls → new.endings ≡ old.endings → new.fuel ≡ old.fuel → new.due ≡ old.due → new.marks ≡ old.marks → new.request ≡ old.request →
    IsRoomier c old.stack new.stack → HasStayed c old new
roomier_stays c old new idle e0 e1 e2 e3 e4 e5 e6 h =
    record { number = e0; calls = e1; ended = e2; marks = e5; state = same_state c old new e1 e2 e3 e4 h; idle = e6 ∙ idle }

-- the start of a call

pub start_unpaid : (calls : List ScriptCall) (v : ImageThread) → v.fuel ≡ 0 → start_step calls v ≡ comes_to Budget v
start_unpaid [] v e = refl
start_unpaid (x ∷ xs) v e = unpaid_step v (λ w. Asks w (request Kernel (what.Enter (Script x.function) x.args))) e

abbrev pub first_of : List ScriptCall → Option ScriptCall
first_of [] = None
first_of (x ∷ xs) = Some x

pub first_at : (n : ℕ) (calls : List ScriptCall) (x : ScriptCall) → n < length calls → x ≡ get_or calls n x → Some x ≡ first_of (drop n calls)
first_at zero [] x h e = absurd (omega (arith, h))
first_at zero (y ∷ ys) x h e = ap Some e
first_at (suc n) [] x h e = absurd (omega (arith, h))
first_at (suc n) (y ∷ ys) x h e = first_at n ys x (omega (arith, h)) e

pub start_paid : (calls : List ScriptCall) (x : ScriptCall) (v : ImageThread) → IsTrue (has_call calls) → Some x ≡ first_of calls → 0 < v.fuel →
    start_step calls v ≡ Asks (poorer v) (request Kernel (what.Enter (Script x.function) x.args))
start_paid [] x v h e f = absurd (cc)
start_paid (y ∷ ys) x v h e f =
    let s : y ≡ x = cc in
    paid_step v (λ w. Asks w (request Kernel (what.Enter (Script y.function) y.args))) f
    ∙ ap (λ (z : ScriptCall). Asks (poorer v) (request Kernel (what.Enter (Script z.function) z.args))) s

-- a request that has its room

spent : (c : Code) (old new : Runner) → new.calls ≡ old.calls → new.endings ≡ old.endings → new.fuel ≡ old.fuel - 1 → new.due ≡ old.due → IsRoomier c old.stack new.stack → thread_of c new ≡ poorer (thread_of c old)
spent c old new e1 e2 e3 e4 h = thread_is c new _ _ _ _ _ _ (left_same old new e1 e2) (ap (λ v. v.items) e2) e3 e4 h.frames h.shadow

asked_behind : (c : Code) (old new : Runner) (q : Request) → new.thread ≡ old.thread → new.calls ≡ old.calls → new.endings ≡ old.endings → new.fuel ≡ old.fuel - 1 → new.due ≡ old.due → IsRoomier c old.stack new.stack → HasRoomFor c new.stack q.what →
    new.marks ≡ None → new.request ≡ Some q → HasTaken c old new (Asks (poorer (thread_of c old)) q)
asked_behind c old new q e0 e1 e2 e3 e4 h room e5 e6 =
    record {
      number = e0;
      calls = e1;
      ended = e2;
      marks = e5;
      is = ap (λ v. taken v (Some q)) (sym (spent c old new e1 e2 e3 e4 h)) ∙ ap (taken (thread_of c new)) (sym e6);
      ready = subst (IsReadyIf c new.stack) (sym e6) room;
    }

pub asked_with_room : (c : Code) (old new : Runner) (mid : FrameStack) (q : Request) → IsRoomier c old.stack mid → HasRoomFor c mid q.what →
    new.thread ≡ old.thread → new.calls ≡ old.calls → new.endings ≡ old.endings → new.fuel ≡ old.fuel - 1 → new.due ≡ old.due → new.stack ≡ mid → new.marks ≡ None → new.request ≡ Some q →
    HasTaken c old new (Asks (poorer (thread_of c old)) q)
asked_with_room c old new mid q h room e0 e1 e2 e3 e4 e5 e6 e7 =
    asked_behind c old new q e0 e1 e2 e3 e4 (subst (IsRoomier c old.stack) (sym e5) h) (subst (λ (s : FrameStack). HasRoomFor c s q.what) (sym e5) room) e6 e7

-- an action

asks_action : (v : ImageThread) (n : ℕ) (args : List Word) (post : Bool) (k : ℕ) (x : Option Word) → action_on true v n args post k x ≡ if_paid v (λ w. Asks w (action_of v.shadow n args post k x))
asks_action v n args true k x = refl
asks_action v n args false k x = refl

performs_ready : (c : Code) (r : FrameStack) (shadow : List Principal) (n : ℕ) (args : List Word) (post : Bool) (k : ℕ) (x : Option Word) → CanGoOn c r r.top → HasRoomFor c r (action_of shadow n args post k x).what
performs_ready c r shadow n args true k x h = h
performs_ready c r shadow n args false k x h = h

pub budget_action : (c : Code) (old new : Runner) (n : ℕ) (args : List Word) (post : Bool) (k : ℕ) (x : Option Word) → old.fuel ≡ 0 → HasTaken c old new (comes_to Budget (thread_of c old)) →
    HasTaken c old new (action_on true (thread_of c old) n args post k x)
budget_action c old new n args post k x e h = taken_as c old new _ _ (asks_action (thread_of c old) n args post k x) (budget c old new (λ w. Asks w (action_of old.stack.shadow.principals n args post k x)) e h)

pub performs : (c : Code) (old new : Runner) (n : ℕ) (args : List Word) (post : Bool) (k : ℕ) (x : Option Word) → 0 < old.fuel → CanGoOn c old.stack old.stack.top →
    new.thread ≡ old.thread → new.calls ≡ old.calls → new.endings ≡ old.endings → new.fuel ≡ old.fuel - 1 → new.due ≡ old.due → new.stack ≡ old.stack → new.marks ≡ None →
    new.request ≡ Some (action_of old.stack.shadow.principals n args post k x) → HasTaken c old new (action_on true (thread_of c old) n args post k x)
performs c old new n args post k x fuel ready e0 e1 e2 e3 e4 e5 e6 e7 =
    let q = action_of old.stack.shadow.principals n args post k x in
    taken_as c old new _ _ (asks_action (thread_of c old) n args post k x)
    (paid_taken c old new (λ w. Asks w q) fuel
    (asked_with_room c old new old.stack q (record { frames = refl; shadow = refl }) (performs_ready c old.stack old.stack.shadow.principals n args post k x ready) e0 e1 e2 e3 e4 e5 e6 e7))

-- the effects of instructions

pub gives : (c : Code) (m : Marks) (v : ImageThread) (f g : KeptFrame) (fs : List ImageFrame) (w : Word) → IsSome (runs f) → frame_of c g ≡ changed (activation_behind (Some w)) (frame_of c f) →
    effect_in c m v (frame_of c f ∷ fs) (found.Gives w) ≡ Goes (with_frames (frame_of c g ∷ fs) v)
gives c m v (kept.Runs run) g fs w h e = ap (λ x. Goes (with_frames (x ∷ fs) v)) (sym e)
gives c m v (kept.Wraps n args wrapper at x) g fs w h e = absurd (cc)

lost_in : (f : ImageFrame) → arrival_in false f ≡ Traps Unreachable
lost_in (Runs a) = refl
lost_in (Wraps n args lines x) = refl

pub jumps_nowhere : (c : Code) (m : Marks) (v : ImageThread) (f g : KeptFrame) (fs : List ImageFrame) (k : ℕ) → IsSome (runs f) →
    ((run : Running) → runs f ≡ Some run → arrival c.program (run_of c run) (slice_get (run_of c run).blocks k) ≡ arrival_in false (frame_of c g)) →
    effect_in c m v (frame_of c f ∷ fs) (found.Jumps k) ≡ comes_to (Trapped Unreachable) v
jumps_nowhere c m v (kept.Runs run) g fs k h e = ap (effect_step c v m (run_of c run) fs) (e run refl ∙ lost_in (frame_of c g))
jumps_nowhere c m v (kept.Wraps n args wrapper at x) g fs k h e = absurd (cc)

pub traps_on : (c : Code) (m : Marks) (v : ImageThread) (top : Option KeptFrame) (below : Stack) (trap : Trap) → IsSome (running_on top) →
    effect_in c m v (frames_of c top below) (found.Traps trap) ≡ comes_to (Trapped trap) v
traps_on c m v None below trap h = absurd (cc)
traps_on c m v (Some (kept.Runs run)) below trap h = refl
traps_on c m v (Some (kept.Wraps n args wrapper at x)) below trap h = absurd (cc)

pub wants_asks : (c : Code) (m : Marks) (v : ImageThread) (top : Option KeptFrame) (below : Stack) (w : What) → IsSome (running_on top) → v.frames ≡ frames_of c top below →
    effect_in c m v (frames_of c top below) (found.Wants w) ≡ Asks v (request (asker_in c m v.shadow (frames_of c top below) w) w)
wants_asks c m v None below w h e = absurd (cc)
wants_asks c m v (Some (kept.Runs run)) below w h e =
    ap (λ fs. Asks (with_frames fs v) (request (asker_in c m v.shadow (frames_of c (Some (kept.Runs run)) below) w) w)) (sym e)
wants_asks c m v (Some (kept.Wraps n args wrapper at x)) below w h e = absurd (cc)

if_full : (b : Bool) (v : ImageThread) (s : ImageStep) → b ≡ false → if_room b v s ≡ comes_to (Trapped TooDeep) v
if_full true v s e = absurd (cc)
if_full false v s e = refl

if_free : (b : Bool) (v : ImageThread) (s : ImageStep) → b ≡ true → if_room b v s ≡ s
if_free true v s e = refl
if_free false v s e = absurd (cc)

pub entry_full : (c : Code) (m : Marks) (v : ImageThread) (top : Option KeptFrame) (below : Stack) (w : What) → IsSome (running_on top) → false ≡ has_room (frames_of c top below) →
    effect_in c m v (frames_of c top below) (found.Enters w) ≡ comes_to (Trapped TooDeep) v
entry_full c m v None below w h e = absurd (cc)
entry_full c m v (Some (kept.Runs run)) below w h e = if_full (has_room (frames_of c (Some (kept.Runs run)) below)) v _ (sym e)
entry_full c m v (Some (kept.Wraps n args wrapper at x)) below w h e = absurd (cc)

pub entry_free : (c : Code) (m : Marks) (v : ImageThread) (top : Option KeptFrame) (below : Stack) (w : What) → IsSome (running_on top) → true ≡ has_room (frames_of c top below) →
    effect_in c m v (frames_of c top below) (found.Enters w) ≡ effect_in c m v (frames_of c top below) (found.Wants w)
entry_free c m v None below w h e = absurd (cc)
entry_free c m v (Some (kept.Runs run)) below w h e = if_free (has_room (frames_of c (Some (kept.Runs run)) below)) v _ (sym e)
entry_free c m v (Some (kept.Wraps n args wrapper at x)) below w h e = absurd (cc)

pub call_full : (c : Code) (m : Marks) (v : ImageThread) (top : Option KeptFrame) (below : Stack) (n : ℕ) (args : List Word) → IsSome (running_on top) → false ≡ has_room (frames_of c top below) →
    effect_in c m v (frames_of c top below) (found.Calls n args) ≡ comes_to (Trapped TooDeep) v
call_full c m v None below n args h e = absurd (cc)
call_full c m v (Some (kept.Runs run)) below n args h e = if_full (has_room (frames_of c (Some (kept.Runs run)) below)) v _ (sym e)
call_full c m v (Some (kept.Wraps k xs wrapper at x)) below n args h e = absurd (cc)

-- a wrapper at a line

-- the action that its line asks for
pub goes_to_action : (c : Code) (old mid new : Runner) (post : Bool) (k : ℕ) (x : Option Word) → mid.thread ≡ old.thread → mid.calls ≡ old.calls → mid.endings ≡ old.endings → mid.fuel ≡ old.fuel → mid.due ≡ old.due → IsRoomier c old.stack mid.stack → mid.stack.top ≡ old.stack.top →
    line_on (frames_of c old.stack.top old.stack.below) ≡ Some (asked_by post k) → true ≡ has_action c.program (function_on old.stack.top) post k → x ≡ value_on mid.stack.top →
    HasTaken c mid new (action_on true (thread_of c mid) (function_on mid.stack.top) (args_on mid.stack.top) post k x) →
    HasTaken c old new (frame_step c (thread_of c old) (frames_of c old.stack.top old.stack.below))
goes_to_action c old mid new post k x e0 e1 e2 e3 e4 a top line has value h =
    retaken c old mid new _ _ e0 e1 e2
    (acts c (thread_of c old) old.stack.top old.stack.below post k line
    ∙ ap (λ b. action_on b (thread_of c old) (function_on old.stack.top) (args_on old.stack.top) post k (value_on old.stack.top)) (sym has)
    ∙ ap (λ v. action_on true v (function_on old.stack.top) (args_on old.stack.top) post k (value_on old.stack.top)) (sym (same_state c old mid e1 e2 e3 e4 a))
    ∙ ap (λ (o : Option KeptFrame). action_on true (thread_of c mid) (function_on o) (args_on o) post k (value_on o)) (sym top)
    ∙ ap (action_on true (thread_of c mid) (function_on mid.stack.top) (args_on mid.stack.top) post k) (sym value)) h

-- the function has no such action
pub lacks_action : (c : Code) (old new : Runner) (post : Bool) (k : ℕ) → line_on (frames_of c old.stack.top old.stack.below) ≡ Some (asked_by post k) → false ≡ has_action c.program (function_on old.stack.top) post k →
    HasTaken c old new (comes_to (Trapped Unreachable) (thread_of c old)) → HasTaken c old new (frame_step c (thread_of c old) (frames_of c old.stack.top old.stack.below))
lacks_action c old new post k line has h =
    taken_as c old new _ _
    (acts c (thread_of c old) old.stack.top old.stack.below post k line
    ∙ ap (λ b. action_on b (thread_of c old) (function_on old.stack.top) (args_on old.stack.top) post k (value_on old.stack.top)) (sym has)
    ∙ no_action (thread_of c old) (function_on old.stack.top) (args_on old.stack.top) post k (value_on old.stack.top)) h

-- a step that goes on to this thread
pub goes_to : (c : Code) (old new : Runner) (s : ImageStep) (v : ImageThread) → s ≡ Goes v → new.thread ≡ old.thread → new.calls ≡ old.calls → new.endings ≡ old.endings → new.marks ≡ None → new.request ≡ None → thread_of c new ≡ v → HasTaken c old new s
goes_to c old new s v step e0 e1 e2 e3 e4 state =
    record {
      number = e0;
      calls = e1;
      ended = e2;
      marks = e3;
      is = step ∙ ap Goes (sym state) ∙ ap (taken (thread_of c new)) (sym e4);
      ready = subst (IsReadyIf c new.stack) (sym e4) tt;
    }

pub jump_lost : (c : Code) (m : Marks) (v : ImageThread) (top : Option KeptFrame) (below : Stack) (f g : KeptFrame) (k : ℕ) {there : Bool} → top ≡ Some f → IsSome (running_on top) →
    ((run : Running) → runs f ≡ Some run → arrival c.program (run_of c run) (slice_get (run_of c run).blocks k) ≡ arrival_in there (frame_of c g)) → there ≡ false →
    effect_in c m v (frames_of c top below) (found.Jumps k) ≡ comes_to (Trapped Unreachable) v
jump_lost c m v top below f g k {there} e h arrives lost =
    ap (λ (o : Option KeptFrame). effect_in c m v (frames_of c o below) (found.Jumps k)) e
    ∙ jumps_nowhere c m v f g (map (frame_of c) below.frames) k (subst (λ (o : Option KeptFrame). IsSome (running_on o)) e h)
    (λ run is. arrives run is ∙ ap (λ b. arrival_in b (frame_of c g)) lost)

-- the call of a wrapper

pub wrapper_full : (c : Code) (v : ImageThread) (top : Option KeptFrame) (below : Stack) (n : ℕ) (args : List Word) (lines : List Op) → IsSome (running_on top) → false ≡ has_room (frames_of c top below) →
    wrapper_in v (frames_of c top below) n args lines ≡ comes_to (Trapped TooDeep) v
wrapper_full c v None below n args lines h e = absurd (cc)
wrapper_full c v (Some (kept.Runs run)) below n args lines h e = if_full (has_room (frames_of c (Some (kept.Runs run)) below)) v _ (sym e)
wrapper_full c v (Some (kept.Wraps k xs wrapper at x)) below n args lines h e = absurd (cc)

-- a wrapper that begins with its enter asks for that, and one that begins with another line cannot run

first_asks : (v : ImageThread) (n : ℕ) (args : List Word) (fs : List ImageFrame) (lines : List Op) → is_enter (line_of (first_op lines)) ≡ true →
    first_line v n args fs lines ≡ Asks (with_frames (Wraps n args lines None ∷ fs) v) (request (top_of v.shadow) (what.Enter (Direct n) args))
first_asks v n args fs [] e = absurd (cc)
first_asks v n args fs (op.Enter s ∷ lines) e = refl
first_asks v n args fs (o ∷ lines) e = absurd (cc)

first_lost : (v : ImageThread) (n : ℕ) (args : List Word) (fs : List ImageFrame) (lines : List Op) → is_enter (line_of (first_op lines)) ≡ false → first_line v n args fs lines ≡ comes_to (Trapped Unreachable) v
first_lost v n args fs [] e = refl
first_lost v n args fs (op.Enter s ∷ lines) e = absurd (cc)
first_lost v n args fs (o ∷ lines) e = refl

pub wrapper_asks : (c : Code) (v : ImageThread) (top : Option KeptFrame) (below : Stack) (n : ℕ) (args : List Word) (lines : List Op) → IsSome (running_on top) → true ≡ has_room (frames_of c top below) →
    is_enter (line_of (first_op lines)) ≡ true →
    wrapper_in v (frames_of c top below) n args lines ≡ Asks (with_frames (Wraps n args lines None ∷ frames_of c top below) v) (request (top_of v.shadow) (what.Enter (Direct n) args))
wrapper_asks c v None below n args lines h room e = absurd (cc)
wrapper_asks c v (Some (kept.Runs run)) below n args lines h room e =
    if_free (has_room (frames_of c (Some (kept.Runs run)) below)) v _ (sym room) ∙ first_asks v n args (frames_of c (Some (kept.Runs run)) below) lines e
wrapper_asks c v (Some (kept.Wraps k xs wrapper at x)) below n args lines h room e = absurd (cc)

pub wrapper_lost : (c : Code) (v : ImageThread) (top : Option KeptFrame) (below : Stack) (n : ℕ) (args : List Word) (lines : List Op) → IsSome (running_on top) → true ≡ has_room (frames_of c top below) →
    is_enter (line_of (first_op lines)) ≡ false → wrapper_in v (frames_of c top below) n args lines ≡ comes_to (Trapped Unreachable) v
wrapper_lost c v None below n args lines h room e = absurd (cc)
wrapper_lost c v (Some (kept.Runs run)) below n args lines h room e =
    if_free (has_room (frames_of c (Some (kept.Runs run)) below)) v _ (sym room) ∙ first_lost v n args (frames_of c (Some (kept.Runs run)) below) lines e
wrapper_lost c v (Some (kept.Wraps k xs wrapper at x)) below n args lines h room e = absurd (cc)

pub asks_enter : (c : Code) (old new : Runner) (who : Principal) (n : ℕ) (args copy : List Word) (lines : List Op) → copy ≡ args → who ≡ top_of old.stack.shadow.principals →
    new.thread ≡ old.thread → new.calls ≡ old.calls → new.endings ≡ old.endings → new.fuel ≡ old.fuel - 1 → new.due ≡ old.due → new.marks ≡ None → new.request ≡ Some (request who (what.Enter (Direct n) args)) →
    frames_of c new.stack.top new.stack.below ≡ Wraps n copy lines None ∷ frames_of c old.stack.top old.stack.below → new.stack.shadow ≡ old.stack.shadow → HasRoomFor c new.stack (what.Enter (Direct n) copy) →
    HasTaken c old new (Asks (with_frames (Wraps n args lines None ∷ frames_of c old.stack.top old.stack.below) (poorer (thread_of c old))) (request (top_of old.stack.shadow.principals) (what.Enter (Direct n) args)))
asks_enter c old new who n args copy lines same asker e0 e1 e2 e3 e4 e5 e6 frames shadow ready =
    let q = request (top_of old.stack.shadow.principals) (what.Enter (Direct n) args) in
    let asked : new.request ≡ Some q = e6 ∙ ap (λ w. Some (request w (what.Enter (Direct n) args))) asker in
    let state : thread_of c new ≡ with_frames (Wraps n args lines None ∷ frames_of c old.stack.top old.stack.below) (poorer (thread_of c old)) =
    thread_is c new _ _ _ _ _ _ (left_same old new e1 e2) (ap (λ v. v.items) e2) e3 e4
    (frames ∙ ap (λ (xs : List Word). Wraps n xs lines None ∷ frames_of c old.stack.top old.stack.below) same) (ap (λ s. s.principals) shadow) in
    record {
      number = e0;
      calls = e1;
      ended = e2;
      marks = e5;
      is = ap (λ v. taken v (Some q)) (sym state) ∙ ap (taken (thread_of c new)) (sym asked);
      ready = subst (IsReadyIf c new.stack) (sym asked) (subst (λ (xs : List Word). HasRoomFor c new.stack (what.Enter (Direct n) xs)) same ready);
    }

-- a wrapper asks for its enter
abbrev pub calling : ℕ → List Word → List Op → ImageThread → ImageStep
calling n args lines v = Asks (with_frames (Wraps n args lines None ∷ v.frames) (poorer v)) (request (top_of v.shadow) (what.Enter (Direct n) args))

-- from a state with more room
pub calls_entering : (c : Code) (old mid new : Runner) (n : ℕ) (args : List Word) (lines : List Op) → mid.thread ≡ old.thread → mid.calls ≡ old.calls → mid.endings ≡ old.endings → mid.fuel ≡ old.fuel → mid.due ≡ old.due → IsRoomier c old.stack mid.stack →
    HasTaken c mid new (calling n args lines (thread_of c mid)) → HasTaken c old new (calling n args lines (thread_of c old))
calls_entering c old mid new n args lines e0 e1 e2 e3 e4 a h = retaken c old mid new _ _ e0 e1 e2 (ap (calling n args lines) (sym (same_state c old mid e1 e2 e3 e4 a))) h
