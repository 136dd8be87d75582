-- The marks of the next instruction are taken, and nothing else changes.
use Rattle.std.specs.Prelude.{IfSome, IsNone}
use Rattle.std.proofs.Common.{◌≡◌, ℕ, zero, suc, ◌-◌, ◌<◌, Bool, true, false, Option, Some, None, IsSome, List, [], ◌∷◌, map, refl, sym, ap, ◌∙◌, subst}
use Rattle.lx_words.specs.Word.{Word}
use Rattle.lx_ir.specs.declared.instr.Op.{Op}
use Rattle.lx_ir.specs.declared.instr.Op.TheVariants as op
use Rattle.lx_model.specs.declared.request.Outcome.TheVariants.{Trapped}
use Rattle.lx_model.specs.declared.request.Trap.TheVariants.{Unreachable}
use Rattle.lx_model.specs.Thread.{Activation}
use Rattle.lx_model.specs.Effect.{Effect, Moves, Wants, Enters, Calls, Traps, effect, text_of}
use Rattle.lx_images.specs.Image.{Code, ImageFrame, ImageThread, ImageStep, Goes, Asks, Runs, Wraps, Marks, comes_to, costly_step, due_or, effect_step, frame_step, has_room, if_paid, if_room, first_line, with_frames, wrapped_import, wrapper_args, wrapper_call}
use Rattle.lx_images.specs.Wrappers.{called_lines}
use Rattle.lx_image_steps.specs.Marks.{plain_step}
use Rattle.lx_image_steps.specs.Standing.{head_of}
use Rattle.lx_frames.specs.declared.frame.Frame.{Frame as KeptFrame}
use Rattle.lx_frames.specs.declared.frame.Frame.TheVariants as kept
use Rattle.lx_interp.specs.declared.runner.Runner.{Runner}
use Rattle.lx_frames.specs.Frames.{Stack, frame_of, frames_of, marked_frame_step, runs}
use Rattle.lx_frames.specs.Stack.{IsReadyIf}
use Rattle.lx_interp.specs.Runner.{GoesOn, HasTaken, StepsAlike, asking_behind, asking_or, marked_step, poorer, taken, thread_of}
use Rattle.lx_interp.proofs.Lines.{paid_step}
use Rattle.lx_interp.proofs.Takings.{left_same, thread_is}

-- what a function on top comes to has nothing of the frames that the thread had

room_apart : (b : Bool) (v : ImageThread) (gs : List ImageFrame) (s : ImageStep) → if_room b (with_frames gs v) s ≡ if_room b v s
room_apart true v gs s = refl
room_apart false v gs s = refl

first_apart : (v : ImageThread) (gs : List ImageFrame) (n : ℕ) (args : List Word) (fs : List ImageFrame) (lines : List Op) → first_line (with_frames gs v) n args fs lines ≡ first_line v n args fs lines
first_apart v gs n args fs [] = refl
first_apart v gs n args fs (op.Enter s ∷ lines) = refl
first_apart v gs n args fs (o ∷ lines) = refl

call_apart : (v : ImageThread) (gs : List ImageFrame) (a : Activation) (fs : List ImageFrame) (n : ℕ) (args : List Word) (lines : List Op) → wrapper_call (with_frames gs v) a fs n args lines ≡ wrapper_call v a fs n args lines
call_apart v gs a fs n args lines =
    room_apart (has_room (Runs a ∷ fs)) v gs _ ∙ ap (if_room (has_room (Runs a ∷ fs)) v) (first_apart v gs n args (Runs a ∷ fs) lines)

effect_apart : (c : Code) (v : ImageThread) (gs : List ImageFrame) (m : Marks) (a : Activation) (fs : List ImageFrame) (e : Effect) → effect_step c (with_frames gs v) m a fs e ≡ effect_step c v m a fs e
effect_apart c v gs m a fs (Moves b) = refl
effect_apart c v gs m a fs (Wants w) = refl
effect_apart c v gs m a fs (Enters w) = room_apart (has_room (Runs a ∷ fs)) v gs _
effect_apart c v gs m a fs (Calls n args) = room_apart (has_room (Runs a ∷ fs)) v gs _
effect_apart c v gs m a fs (Traps trap) = refl

costly_apart : (c : Code) (v : ImageThread) (gs : List ImageFrame) (m : Marks) (a : Activation) (fs : List ImageFrame) (o : Op) (w : Option ℕ) → costly_step c m a fs o w (with_frames gs v) ≡ costly_step c m a fs o w v
costly_apart c v gs m a fs o (Some n) = call_apart v gs a fs n (wrapper_args c a o) (called_lines c (text_of c.program a) o)
costly_apart c v gs m a fs o None = effect_apart c v gs m a fs (effect c.program a o)

paid_apart : (v : ImageThread) (fuel : ℕ) (gs : List ImageFrame) (go : ImageThread → ImageStep) → ((n : ℕ) → go (with_frames gs (record v { fuel = n })) ≡ go (record v { fuel = n })) →
    if_paid (with_frames gs (record v { fuel = fuel })) go ≡ if_paid (record v { fuel = fuel }) go
paid_apart v zero gs go h = refl
paid_apart v (suc n) gs go h = h n

plain_apart : (c : Code) (v : ImageThread) (gs fs : List ImageFrame) (m : Marks) (a : Activation) (o : Option Op) → plain_step c (with_frames gs v) fs m a o ≡ plain_step c v fs m a o
plain_apart c v gs fs m a None = paid_apart v v.fuel gs (comes_to (Trapped Unreachable)) (λ n. refl)
plain_apart c v gs fs m a (Some o) =
    paid_apart v v.fuel gs (costly_step c m a fs o (wrapped_import c (text_of c.program a) o))
    (λ n. costly_apart c (record v { fuel = n }) gs m a fs o (wrapped_import c (text_of c.program a) o))

abbrev pub IsFunction : ImageFrame → Type 0
IsFunction (Runs a) = Unit {0}
IsFunction (Wraps n args lines x) = ⊥

frames_apart : (c : Code) (m : Marks) (v : ImageThread) (gs : List ImageFrame) (g : ImageFrame) (fs : List ImageFrame) → IsFunction g →
    marked_frame_step c (Some m) (with_frames gs v) (g ∷ fs) ≡ marked_frame_step c (Some m) v (g ∷ fs)
frames_apart c m v gs (Runs a) fs h = plain_apart c v gs fs m a (head_of a.code)
frames_apart c m v gs (Wraps n args lines x) fs h = absurd h

same_behind : (c : Code) (v : ImageThread) (f g : ImageFrame) (fs : List ImageFrame) (s : ImageStep) → asking_behind c (with_frames (g ∷ fs) v) s ≡ asking_behind c (with_frames (f ∷ fs) v) s
same_behind c v f g fs (Goes w) = refl
same_behind c v f g fs (Asks w q) = refl

undue : (c : Code) (m : Option Marks) (v : ImageThread) → v.due ≡ None → marked_step c m v ≡ marked_frame_step c m v v.frames
undue c m v e = ap (λ d. due_or d v (marked_frame_step c m v v.frames)) e

-- a function that has gone past its marks has the step that it would have had
marks_step : (c : Code) (m : Marks) (v : ImageThread) (f g : ImageFrame) (fs : List ImageFrame) → v.due ≡ None → IsFunction g →
    ((w : ImageThread) (hs : List ImageFrame) → marked_frame_step c None w (f ∷ hs) ≡ marked_frame_step c (Some m) w (g ∷ hs)) →
    marked_step c (Some m) (with_frames (g ∷ fs) v) ≡ marked_step c None (with_frames (f ∷ fs) v)
marks_step c m v f g fs due function step =
    undue c (Some m) (with_frames (g ∷ fs) v) due
    ∙ frames_apart c m v (g ∷ fs) g fs function
    ∙ sym (frames_apart c m v (f ∷ fs) g fs function)
    ∙ sym (step (with_frames (f ∷ fs) v) fs)
    ∙ sym (undue c None (with_frames (f ∷ fs) v) due)

-- and asks what it would have asked
pub marks_taken : (c : Code) (m : Marks) (v : ImageThread) (f g : ImageFrame) (fs : List ImageFrame) → v.due ≡ None → IsFunction g →
    ((w : ImageThread) (hs : List ImageFrame) → marked_frame_step c None w (f ∷ hs) ≡ marked_frame_step c (Some m) w (g ∷ hs)) →
    asking_or c (Some m) (with_frames (g ∷ fs) v) None ≡ asking_or c None (with_frames (f ∷ fs) v) None
marks_taken c m v f g fs due function step =
    ap (asking_behind c (with_frames (g ∷ fs) v)) (marks_step c m v f g fs due function step) ∙ same_behind c v f g fs (marked_step c None (with_frames (f ∷ fs) v))

-- the runner behind the marks

function_of : (c : Code) (g : KeptFrame) → IsSome (runs g) → IsFunction (frame_of c g)
function_of c (kept.Runs run) h = tt
function_of c (kept.Wraps n args wrapper at x) h = absurd (cc)

-- what a frame tells of the marks that are taken from it
abbrev pub TakesMarks : Code → KeptFrame → KeptFrame → Option Marks → Type 0
TakesMarks c f g None = g ≡ f
TakesMarks c f g (Some m) = IsSome (runs g) × ((w : ImageThread) (hs : List ImageFrame) → marked_frame_step c None w (frame_of c f ∷ hs) ≡ marked_frame_step c (Some m) w (frame_of c g ∷ hs))

thread_with : (c : Code) (old new : Runner) (g : KeptFrame) → new.calls ≡ old.calls → new.endings ≡ old.endings → new.fuel ≡ old.fuel → new.due ≡ old.due → new.stack.top ≡ Some g → new.stack.below ≡ old.stack.below → new.stack.shadow ≡ old.stack.shadow →
    thread_of c new ≡ with_frames (frame_of c g ∷ map (frame_of c) old.stack.below.frames) (thread_of c old)
thread_with c old new g e1 e2 e3 e4 e5 e6 e7 =
    thread_is c new _ _ _ _ _ _ (left_same old new e1 e2) (ap (λ v. v.items) e2) e3 e4
    (ap (λ (o : Option KeptFrame). frames_of c o new.stack.below) e5 ∙ ap (λ (s : Stack). frame_of c g ∷ map (frame_of c) s.frames) e6) (ap (λ s. s.principals) e7)

asks_same : (c : Code) (old new : Runner) (f g : KeptFrame) (taken : Option Marks) → old.due ≡ None → old.stack.top ≡ Some f → TakesMarks c f g taken →
    thread_of c new ≡ with_frames (frame_of c g ∷ map (frame_of c) old.stack.below.frames) (thread_of c old) → asking_or c taken (thread_of c new) None ≡ asking_or c None (thread_of c old) None
asks_same c old new f g None due top h state =
    ap (λ v. asking_or c None v None)
    (state
    ∙ ap (λ x. with_frames (frame_of c x ∷ map (frame_of c) old.stack.below.frames) (thread_of c old)) h
    ∙ sym (thread_with c old old f refl refl refl refl top refl refl))
asks_same c old new f g (Some m) due top h state =
    ap (λ v. asking_or c (Some m) v None) state
    ∙ marks_taken c m (thread_of c old) (frame_of c f) (frame_of c g) (map (frame_of c) old.stack.below.frames) due (function_of c g h.0) h.1
    ∙ ap (λ v. asking_or c None v None) (sym (thread_with c old old f refl refl refl refl top refl refl))

step_same : (c : Code) (old new : Runner) (f g : KeptFrame) (taken : Option Marks) → old.due ≡ None → old.stack.top ≡ Some f → TakesMarks c f g taken →
    thread_of c new ≡ with_frames (frame_of c g ∷ map (frame_of c) old.stack.below.frames) (thread_of c old) → marked_step c taken (thread_of c new) ≡ marked_step c None (thread_of c old)
step_same c old new f g None due top h state =
    ap (marked_step c None)
    (state
    ∙ ap (λ x. with_frames (frame_of c x ∷ map (frame_of c) old.stack.below.frames) (thread_of c old)) h
    ∙ sym (thread_with c old old f refl refl refl refl top refl refl))
step_same c old new f g (Some m) due top h state =
    ap (marked_step c (Some m)) state
    ∙ marks_step c m (thread_of c old) (frame_of c f) (frame_of c g) (map (frame_of c) old.stack.below.frames) due (function_of c g h.0) h.1
    ∙ ap (marked_step c None) (sym (thread_with c old old f refl refl refl refl top refl refl))

pub passed_step : (c : Code) (old new : Runner) (f g : KeptFrame) (taken : Option Marks) → old.due ≡ None → old.marks ≡ None → old.stack.top ≡ Some f → TakesMarks c f g taken →
    new.calls ≡ old.calls → new.endings ≡ old.endings → new.fuel ≡ old.fuel → new.due ≡ old.due → new.stack.top ≡ Some g → new.stack.below ≡ old.stack.below → new.stack.shadow ≡ old.stack.shadow → new.marks ≡ taken →
    StepsAlike c old new
passed_step c old new f g taken due marks top h e1 e2 e3 e4 e5 e6 e7 e8 =
    record {
      step =
          ap (λ (m : Option Marks). marked_step c m (thread_of c new)) e8
          ∙ step_same c old new f g taken due top h (thread_with c old new g e1 e2 e3 e4 e5 e6 e7)
          ∙ ap (λ (m : Option Marks). marked_step c m (thread_of c old)) (sym marks);
    }

pub passed_on : (c : Code) (old new : Runner) (f g : KeptFrame) (taken : Option Marks) → old.request ≡ None → old.due ≡ None → old.marks ≡ None → old.stack.top ≡ Some f → TakesMarks c f g taken →
    new.thread ≡ old.thread → new.calls ≡ old.calls → new.endings ≡ old.endings → new.fuel ≡ old.fuel → new.due ≡ old.due → new.stack.top ≡ Some g → new.stack.below ≡ old.stack.below → new.stack.shadow ≡ old.stack.shadow → new.marks ≡ taken → new.request ≡ old.request →
    GoesOn c old new
passed_on c old new f g taken idle due marks top h e0 e1 e2 e3 e4 e5 e6 e7 e8 e9 =
    record {
      number = e0;
      calls = e1;
      ended = e2;
      asks =
          ap (asking_or c new.marks (thread_of c new)) (e9 ∙ idle)
          ∙ ap (λ (m : Option Marks). asking_or c m (thread_of c new) None) e8
          ∙ asks_same c old new f g taken due top h (thread_with c old new g e1 e2 e3 e4 e5 e6 e7)
          ∙ ap (λ (m : Option Marks). asking_or c m (thread_of c old) None) (sym marks)
          ∙ ap (asking_or c old.marks (thread_of c old)) (sym idle);
      ready = subst (IsReadyIf c new.stack) (sym (e9 ∙ idle)) tt;
    }

pub taken_marks : (c : Code) (f g : KeptFrame) (taken : Option Marks) →
    IfSome taken (λ m. (w : ImageThread) (hs : List ImageFrame) → marked_frame_step c None w (frame_of c f ∷ hs) ≡ marked_frame_step c (Some m) w (frame_of c g ∷ hs)) →
    IfSome taken (λ m. IsSome (runs g)) → (IsNone taken → g ≡ f) → TakesMarks c f g taken
taken_marks c f g None step there stays = stays refl
taken_marks c f g (Some m) step there stays = (there, step)

-- a function that goes past an instruction of its own has taken the step of the thread

-- a frame whose step asks nothing, and the frame that it leads to
abbrev pub FrameGoes : Code → KeptFrame → KeptFrame → Type 0
FrameGoes c f g = (v : ImageThread) → (fs : List ImageFrame) → frame_step c v (frame_of c f ∷ fs) ≡ if_paid v (λ w. Goes (with_frames (frame_of c g ∷ fs) w))

pub given_taken : (c : Code) (old new : Runner) (f g : KeptFrame) → 0 < old.fuel → old.request ≡ None → old.due ≡ None → old.marks ≡ None → old.stack.top ≡ Some f → FrameGoes c f g →
    new.thread ≡ old.thread → new.calls ≡ old.calls → new.endings ≡ old.endings → new.fuel ≡ old.fuel - 1 → new.due ≡ old.due → new.stack.top ≡ Some g → new.stack.below ≡ old.stack.below → new.stack.shadow ≡ old.stack.shadow → new.marks ≡ old.marks → new.request ≡ old.request →
    HasTaken c old new (marked_step c old.marks (thread_of c old))
given_taken c old new f g paid idle due marks top step e0 e1 e2 e3 e4 e5 e6 e7 e8 e9 =
    let fs = map (frame_of c) old.stack.below.frames in
    let v = thread_of c old in
    let state : thread_of c new ≡ with_frames (frame_of c g ∷ fs) (poorer v) =
    thread_is c new _ _ _ _ _ _ (left_same old new e1 e2) (ap (λ x. x.items) e2) e3 e4
    (ap (λ (o : Option KeptFrame). frames_of c o new.stack.below) e5 ∙ ap (λ (s : Stack). frame_of c g ∷ map (frame_of c) s.frames) e6) (ap (λ s. s.principals) e7) in
    record {
      number = e0;
      calls = e1;
      ended = e2;
      marks = e8 ∙ marks;
      is =
          ap (λ (m : Option Marks). marked_step c m v) marks
          ∙ undue c None v due
          ∙ ap (λ (o : Option KeptFrame). frame_step c v (frames_of c o old.stack.below)) top
          ∙ step v fs
          ∙ paid_step v (λ w. Goes (with_frames (frame_of c g ∷ fs) w)) paid
          ∙ ap Goes (sym state)
          ∙ ap (taken (thread_of c new)) (sym (e9 ∙ idle));
      ready = subst (IsReadyIf c new.stack) (sym (e9 ∙ idle)) tt;
    }
