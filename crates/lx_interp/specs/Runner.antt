-- What a runner of images is: the thread that it stands for, what it asks, and what may answer it.
use Rattle.std.specs.Prelude.{◌≡◌, ℕ, suc, ◌+◌, ◌-◌, ◌*◌, ◌≤◌, Bool, true, false, IsTrue, IsSome, Option, Some, None, List, [], ◌∷◌, length, drop, nat_le, ⊤}
use Rattle.lx_words.specs.Word.{Word}
use Rattle.lx_caps.specs.declared.Principal.{Principal}
use Rattle.lx_caps.specs.declared.Principal.TheVariants.{Kernel}
use Rattle.lx_model.specs.declared.program.ScriptCall.{ScriptCall}
use Rattle.lx_model.specs.declared.request.Outcome.{Outcome}
use Rattle.lx_model.specs.declared.request.Outcome.TheVariants.{Trapped}
use Rattle.lx_model.specs.declared.request.Trap.TheVariants.{Unreachable}
use Rattle.lx_model.specs.declared.request.Way.{Way}
use Rattle.lx_model.specs.declared.request.Way.TheVariants.{Direct}
use Rattle.lx_model.specs.declared.request.What.{What}
use Rattle.lx_model.specs.declared.request.What.TheVariants as what
use Rattle.lx_model.specs.declared.request.Request.{Request}
use Rattle.lx_model.specs.declared.request.Reply.{Reply}
use Rattle.lx_model.specs.declared.request.Reply.TheVariants as reply
use Rattle.lx_model.specs.Thread.{Activation, has_call}
use Rattle.lx_model.specs.Effect.{text_of}
use Rattle.lx_model.specs.Next.{request}
use Rattle.lx_ir.specs.declared.instr.Op.{Op}
use Rattle.lx_images.specs.Image.{Code, ImageFrame, Runs, ImageThread, ImageStep, Goes, Asks, ImageAsking, Marks, no_marks, top as top_of, below_top, asker, comes_to, effect_step, costly_step, wrapped_import, wrapper_call, action_line, behind_line, due_or, image_next, image_next_within}
use Rattle.lx_image_code.specs.declared.line.Line.{Line}
use Rattle.lx_image_code.specs.declared.line.Line.TheVariants as line
use Rattle.lx_image_code.specs.Wrappers.{wrapper_lines}
use Rattle.lx_image_steps.specs.Standing.{head_of}
use Rattle.lx_image_steps.specs.Effects.{effect_of}
use Rattle.lx_image_steps.specs.declared.effect.Effect.{Effect as Found}
use Rattle.lx_image_steps.specs.declared.next.Step.{Step}
use Rattle.lx_image_steps.specs.declared.next.Step.TheVariants as step
use Rattle.lx_interp.specs.declared.runner.Runner.{Runner}
use Rattle.lx_frames.specs.Frames.{frames_of, marked_frame_step, running_on}
use Rattle.lx_frames.specs.Stack.{IsReadyIf}

-- the thread

-- the calls that are left
abbrev pub calls_left : Runner → List ScriptCall
calls_left r = drop (length r.endings.items) r.calls

-- the thread whose state the runner is in
abbrev pub thread_of : Code → Runner → ImageThread
thread_of c r =
    record {
      calls = calls_left r;
      ended = r.endings.items;
      fuel = r.fuel;
      due = r.due;
      frames = frames_of c r.stack.top r.stack.below;
      shadow = r.stack.shadow.principals;
    }

-- the next step of a thread, where the marks of its next instruction may have been taken
abbrev pub marked_step : Code → Option Marks → ImageThread → ImageStep
marked_step c m v = due_or v.due v (marked_frame_step c m v v.frames)

-- the thread at its next request, where this is its next step
abbrev pub asking_behind : Code → ImageThread → ImageStep → ImageAsking
asking_behind c v (Goes w) = image_next_within (2 * v.fuel + length v.frames) c w
asking_behind c v (Asks w q) = record { thread = w; request = q }

-- what is asked, or the next request of a thread whose marks may have been taken
abbrev pub asking_or : Code → Option Marks → ImageThread → Option Request → ImageAsking
asking_or c m v (Some q) = record { thread = v; request = q }
asking_or c m v None = asking_behind c v (marked_step c m v)

-- what the runner asks, or will ask
abbrev pub asking_of : Code → Runner → ImageAsking
asking_of c r = asking_or c r.marks (thread_of c r) r.request

-- the runner is ready for every reply to what it asks
abbrev pub IsReady : Code → Runner → Type 0
IsReady c r = IsReadyIf c r.stack r.request

-- what a runner stands for

-- a call is left where something is asked
abbrev pub HasCallIf : Runner → Option Request → Type 0
HasCallIf r None = ⊤
HasCallIf r (Some q) = IsTrue (has_call (calls_left r))

-- the runner of the thread with this number stands for a state of the thread, up to register steps
pub record StandsFor (c : Code) (t : ℕ) (r : Runner) (thread : ImageThread) : Type 0 where
  pub number : r.thread ≡ t
  pub ready : IsReady c r
  pub works : HasCallIf r r.request
  pub asks : asking_of c r ≡ image_next c thread
  pub calls : calls_left r ≡ thread.calls
  pub ended : r.endings.items ≡ thread.ended

-- what the runner asks; none, where register steps are due or no call is left
abbrev pub request_of : Runner → Option Request
request_of r = r.request

-- the runner of the thread with this number asks this
pub record IsAsking (c : Code) (t : ℕ) (r : Runner) (asking : ImageAsking) : Type 0 where
  pub number : r.thread ≡ t
  pub ready : IsReady c r
  pub work : IsTrue (has_call (calls_left r))
  pub thread : asking.thread ≡ thread_of c r
  pub request : request_of r ≡ Some asking.request

-- the runner of the thread with this number is exactly at this thread: no register step is taken, and nothing is asked
pub record IsAt (c : Code) (t : ℕ) (r : Runner) (thread : ImageThread) : Type 0 where
  pub number : r.thread ≡ t
  pub state : thread_of c r ≡ thread
  pub marks : r.marks ≡ None
  pub idle : r.request ≡ None

-- the replies that the monitor may give to what is asked: bytes of the stack end within the stack's room, and only an
-- end answers the request to end
abbrev pub may_answer : What → Reply → Bool
may_answer w (reply.Ended o) = true
may_answer (what.Finish o) r = false
may_answer (what.Alloca at size) r = nat_le (at + size) 9223372036854775808
may_answer w r = true

-- events

-- how many events calls may have: their fuel, and the end of each
abbrev pub events_of : List ScriptCall → ℕ
events_of [] = 0
events_of (c ∷ cs) = c.fuel + suc (events_of cs)

-- the events of the calls but the fuel of the first
abbrev pub unpaid_events : List ScriptCall → ℕ
unpaid_events [] = 0
unpaid_events (c ∷ cs) = suc (events_of cs)

-- what is asked has cost a unit
abbrev pub paid_for : What → ℕ
paid_for (what.Finish o) = 0
paid_for w = 1

-- and so if anything is
abbrev pub paid : Option Request → ℕ
paid None = 0
paid (Some q) = paid_for q.what

-- how many events the runner may still have
abbrev pub events_left : Runner → ℕ
events_left r = r.fuel + paid r.request + unpaid_events (calls_left r)

-- a reply behind which fewer events are left: the end of a call answers its request to end
abbrev pub is_spent : What → Reply → Bool
is_spent w (reply.Ended o) = true
is_spent (what.Finish o) r = false
is_spent w r = true

-- and where nothing was asked, no reply leaves fewer
abbrev pub spends : Option Request → Reply → Bool
spends None r = false
spends (Some q) r = is_spent q.what r

-- the value that a reply brings
abbrev pub reply_value : Reply → Option Word
reply_value (reply.Value x) = Some x
reply_value r = None

-- the outcome that a reply ends a call with
abbrev pub end_in : Reply → Option Outcome
end_in (reply.Ended o) = Some o
end_in r = None

-- steps

-- a step as a runner has taken it: it asks, or goes on
abbrev pub taken : ImageThread → Option Request → ImageStep
taken v None = Goes v
taken v (Some q) = Asks v q

-- the thread, a unit of fuel poorer
abbrev pub poorer : ImageThread → ImageThread
poorer v = record v { fuel = v.fuel - 1 }

-- no marks, where none were taken
abbrev pub marks_in : Option Marks → Marks
marks_in None = no_marks
marks_in (Some m) = m

-- what a function on top of these frames comes to, with a unit of fuel paid: by an effect
abbrev pub effect_in : Code → Marks → ImageThread → List ImageFrame → Found → ImageStep
effect_in c m v (Runs a ∷ fs) e = effect_step c v m a fs (effect_of c.program a e)
effect_in c m v fs e = comes_to (Trapped Unreachable) v

-- the same of a thread's own frames
abbrev pub effect_on : Code → Marks → ImageThread → Found → ImageStep
effect_on c m v e = effect_in c m v v.frames e

-- by an instruction, if there is one
abbrev pub costly_or_none : Code → Marks → ImageThread → Activation → List ImageFrame → Option Op → ImageStep
costly_or_none c m v a fs None = comes_to (Trapped Unreachable) v
costly_or_none c m v a fs (Some o) = costly_step c m a fs o (wrapped_import c (text_of c.program a) o) v

-- by its next instruction
abbrev pub instruction_in : Code → Marks → ImageThread → List ImageFrame → ImageStep
instruction_in c m v (Runs a ∷ fs) = costly_or_none c m v a fs (head_of a.code)
instruction_in c m v fs = comes_to (Trapped Unreachable) v

-- the same of a thread's own frames
abbrev pub instruction_on : Code → Marks → ImageThread → ImageStep
instruction_on c m v = instruction_in c m v v.frames

-- by the call of the wrapper of a function, with arguments and of these lines
abbrev pub wrapper_in : ImageThread → List ImageFrame → ℕ → List Word → List Op → ImageStep
wrapper_in v (Runs a ∷ fs) n args lines = wrapper_call v a fs n args lines
wrapper_in v fs n args lines = comes_to (Trapped Unreachable) v

-- the same of a thread's own frames
abbrev pub wrapper_on : ImageThread → ℕ → List Word → List Op → ImageStep
wrapper_on v n args lines = wrapper_in v v.frames n args lines

-- by what is found of its next instruction, if there is one
abbrev pub next_in : Code → Marks → ImageThread → List ImageFrame → Option Step → ImageStep
next_in c m v fs None = comes_to (Trapped Unreachable) v
next_in c m v fs (Some (step.Crosses n args wrapper)) = wrapper_in v fs n args (wrapper_lines c wrapper)
next_in c m v fs (Some (step.Does e)) = effect_in c m v fs e

-- for whom it makes a request
abbrev pub asker_in : Code → Marks → List Principal → List ImageFrame → What → Principal
asker_in c m shadow (Runs a ∷ fs) w = asker (text_of c.program a) m shadow w
asker_in c m shadow fs w = Kernel

-- the line that asks for the action with this number, before the body or behind it
abbrev pub asked_by : Bool → ℕ → Line
asked_by true k = line.Post k
asked_by false k = line.Pre k

-- what a wrapper on top comes to by that line, where the function has such an action or not
abbrev pub action_on : Bool → ImageThread → ℕ → List Word → Bool → ℕ → Option Word → ImageStep
action_on has v n args true k x = action_line has v n true k args x (top_of v.shadow) (below_top v.shadow)
action_on has v n args false k x = action_line has v n false k args None (below_top v.shadow) (top_of v.shadow)

-- a line is the enter
abbrev pub is_enter : Line → Bool
is_enter line.Enter = true
is_enter l = false

-- there is a line, and it is the `ret`
abbrev pub is_ret : Option Line → Bool
is_ret (Some line.Ret) = true
is_ret l = false

-- the request for it
abbrev pub action_of : List Principal → ℕ → List Word → Bool → ℕ → Option Word → Request
action_of shadow n args true k x = request (top_of shadow) (what.Perform n true k (record { args = args; ret = x }) (top_of shadow) (below_top shadow))
action_of shadow n args false k x = request (below_top shadow) (what.Perform n false k (record { args = args; ret = None }) (below_top shadow) (top_of shadow))

-- what a reply leaves of the frames

-- the wrapper of an import behind its enter
abbrev pub behind_direct : Code → ℕ → Principal → ImageThread → ImageThread
behind_direct c t q v = record v { shadow = q ∷ v.shadow; frames = behind_line c t v.frames }

-- a way of wrappers
abbrev pub is_direct : Way → Bool
is_direct (Direct f) = true
is_direct way = false

-- what a runner has done

-- the runner has taken this step
pub record HasTaken (c : Code) (old new : Runner) (s : ImageStep) : Type 0 where
  pub number : new.thread ≡ old.thread
  pub calls : new.calls ≡ old.calls
  pub ended : new.endings ≡ old.endings
  pub marks : new.marks ≡ None
  pub is : s ≡ taken (thread_of c new) new.request
  pub ready : IsReady c new

-- nothing that the thread shows has changed
pub record HasStayed (c : Code) (old new : Runner) : Type 0 where
  pub number : new.thread ≡ old.thread
  pub calls : new.calls ≡ old.calls
  pub ended : new.endings ≡ old.endings
  pub marks : new.marks ≡ old.marks
  pub state : thread_of c new ≡ thread_of c old
  pub idle : new.request ≡ None

-- the runner goes on to what it asks, or stays before it
pub record GoesOn (c : Code) (old new : Runner) : Type 0 where
  pub number : new.thread ≡ old.thread
  pub calls : new.calls ≡ old.calls
  pub ended : new.endings ≡ old.endings
  pub asks : asking_of c new ≡ asking_of c old
  pub ready : IsReady c new

-- the next step is the same, wherever the marks of its instruction have been taken
pub record StepsAlike (c : Code) (old new : Runner) : Type 0 where
  pub step : marked_step c new.marks (thread_of c new) ≡ marked_step c old.marks (thread_of c old)

-- how many steps the runner may take before it asks, and 0 where it asks
abbrev pub steps_before : Code → Runner → Option Request → ℕ
steps_before c r None = suc (2 * r.fuel + length (frames_of c r.stack.top r.stack.below))
steps_before c r (Some q) = 0

-- the marks of the next instruction have been taken where a function runs on top and no outcome is due
abbrev pub IsMarked : Runner → Type 0
IsMarked r = r.due ≡ None → IsSome (running_on r.stack.top) → IsSome r.marks

-- steps are under way: nothing else is asked, and a call is left
pub record IsUnderWay (c : Code) (old new : Runner) : Type 0 where
  pub goes : GoesOn c old new
  pub events : events_left new ≤ events_left old
  pub work : IsTrue (has_call (calls_left new))

-- behind a reply: the thread is this
pub record Becomes (c : Code) (old new : Runner) (v : ImageThread) : Type 0 where
  pub number : new.thread ≡ old.thread
  pub calls : new.calls ≡ old.calls
  pub marks : new.marks ≡ old.marks
  pub request : new.request ≡ old.request
  pub state : thread_of c new ≡ v

-- no fuel was spent, and no call has ended
pub record KeepsFuel (old new : Runner) : Type 0 where
  pub calls : new.calls ≡ old.calls
  pub ended : new.endings ≡ old.endings
  pub fuel : new.fuel ≡ old.fuel
  pub marks : new.marks ≡ old.marks
  pub request : new.request ≡ old.request
