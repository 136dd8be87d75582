-- The register steps of a thread, up to its next request, and what a reply does to it.
use Rattle.std.specs.Prelude.{ℕ, zero, suc, ◌+◌, ◌*◌, Bool, true, false, Option, Some, None, List, [], ◌∷◌, ◌++◌, option_and_then, nat_lt, length, if◌then◌else◌}
use Rattle.lx_words.specs.declared.word.Width.TheVariants.{W64}
use Rattle.lx_words.specs.Word.{Word, word}
use Rattle.lx_caps.specs.declared.Principal.{Principal}
use Rattle.lx_caps.specs.declared.Principal.TheVariants.{Kernel}
use Rattle.lx_annot.specs.Action.{Action}
use Rattle.lx_ir.specs.declared.instr.Op.{Op}
use Rattle.lx_model.specs.declared.program.Program.{Program}
use Rattle.lx_model.specs.declared.program.ScriptCall.{ScriptCall}
use Rattle.lx_model.specs.declared.request.Outcome.{Outcome}
use Rattle.lx_model.specs.declared.request.Outcome.TheVariants.{Returned, Trapped, Budget}
use Rattle.lx_model.specs.declared.request.Trap.TheVariants.{TooDeep, Unreachable, Signature}
use Rattle.lx_model.specs.declared.request.Way.{Way}
use Rattle.lx_model.specs.declared.request.Way.TheVariants.{Script, Indirect}
use Rattle.lx_model.specs.declared.request.What.{What}
use Rattle.lx_model.specs.declared.request.What.TheVariants as what
use Rattle.lx_model.specs.declared.request.Request.{Request}
use Rattle.lx_model.specs.declared.request.Reply.{Reply}
use Rattle.lx_model.specs.declared.request.Reply.TheVariants.{Value, Entered, Ended}
use Rattle.lx_model.specs.Program.{annotation_or_none, function_of, result_width, same_result}
use Rattle.lx_model.specs.Thread.{Activation, Stage, Pre, Body, Post, Crossing, Frame, Thread, Ending, activation, top_of_stack, activation_behind, first_fuel}
use Rattle.lx_model.specs.Effect.{Effect, Moves, Wants, Enters, Calls, Traps, effect, returned_value, call_result}

-- what a thread does next
pub data Step : Type 0 where
  -- a register step
  Goes : Thread → Step
  -- a request
  Asks : Thread → Request → Step

abbrev pub request : Principal → What → Request
request p w = record { who = p; what = w }

-- the request that ends a call
abbrev pub finish : Outcome → Request
finish o = request Kernel (what.Finish o)

-- an outcome is due, and the frames are gone
abbrev pub with_due : Outcome → Thread → Thread
with_due o thread = record thread { due = Some o; frames = [] }

-- an outcome becomes due, and is asked for
abbrev pub comes_to : Outcome → Thread → Step
comes_to o thread = Asks (with_due o thread) (finish o)

-- how many frames a thread may have
abbrev pub frame_limit : ℕ
frame_limit = 256

-- a step that adds a frame
abbrev pub if_room : Bool → Thread → Step → Step
if_room true thread step = step
if_room false thread step = comes_to (Trapped TooDeep) thread

abbrev pub has_room : List Frame → Bool
has_room frames = nat_lt (length frames) frame_limit

abbrev pub with_top : Frame → List Frame → Thread → Thread
with_top f fs thread = record thread { frames = f ∷ fs }

-- the frame runs on from this activation
abbrev pub with_run : Frame → Activation → Frame
with_run f a = record f { run = a }

-- the frame of a function of the same text
abbrev pub own_frame : Program → ℕ → Frame → ℕ → List Word → Frame
own_frame p t f n args = record { run = activation p n args f.run.high; principal = f.principal; crossing = None }

abbrev pub effect_step : Program → ℕ → Thread → Frame → List Frame → Effect → Step
effect_step p t thread f fs (Moves a) = Goes (with_top (with_run f a) fs thread)
effect_step p t thread f fs (Wants w) = Asks thread (request f.principal w)
effect_step p t thread f fs (Enters w) = if_room (has_room (f ∷ fs)) thread (Asks thread (request f.principal w))
effect_step p t thread f fs (Calls n args) =
    if_room (has_room (f ∷ fs)) thread (Goes (with_top (own_frame p t f n args) (f ∷ fs) thread))
effect_step p t thread f fs (Traps trap) = comes_to (Trapped trap) thread

-- a step that costs a unit: without fuel the call comes to its budget's end
abbrev pub if_paid : Thread → (Thread → Step) → Step
if_paid thread go = elim thread.fuel [ zero ↦ comes_to Budget thread | suc n ↦ go (record thread { fuel = n }) ]

-- one instruction of the top frame
abbrev pub instruction_step : Program → ℕ → Frame → List Frame → List Op → Thread → Step
instruction_step p t f fs [] thread = comes_to (Trapped Unreachable) thread
instruction_step p t f fs (o ∷ os) thread = effect_step p t thread f fs (effect p f.run o)

-- the actions of a crossing
abbrev pub actions_of : Program → ℕ → Bool → List Action
actions_of p n true = (annotation_or_none p n).post
actions_of p n false = (annotation_or_none p n).pre

abbrev pub has_action : Program → ℕ → Bool → ℕ → Bool
has_action p n post k = nat_lt k (length (actions_of p n post))

-- an action before the body: from the caller to the callee
abbrev pub pre_action : Frame → Crossing → ℕ → Request
pre_action f c k =
    request c.source (what.Perform c.function false k (record { args = c.args; ret = None }) c.source f.principal)

-- an action behind the body: from the callee to the caller
abbrev pub post_action : Frame → Crossing → ℕ → Option Word → Request
post_action f c k v =
    request f.principal (what.Perform c.function true k (record { args = c.args; ret = v }) f.principal c.source)

-- the top frame is left: its caller goes on with the value, or the call comes to its end
abbrev pub after_leaving : Option Word → List Frame → Thread → Thread
after_leaving v [] thread = with_due (Returned v) thread
after_leaving v (f ∷ fs) thread = record thread { frames = with_run f (activation_behind v f.run) ∷ fs }

-- the next action behind the body, or the leaving of the crossing
abbrev pub post_step : Bool → Frame → List Frame → Crossing → ℕ → Option Word → Thread → Step
post_step true f fs c k v thread = if_paid thread (λ poorer. Asks poorer (post_action f c k v))
post_step false f fs c k v thread = Goes (after_leaving v fs thread)

abbrev pub stage_step : Program → ℕ → Frame → List Frame → Crossing → Stage → Thread → Step
stage_step p t f fs c (Pre k) thread = if_paid thread (λ poorer. Asks poorer (pre_action f c k))
stage_step p t f fs c Body thread = if_paid thread (instruction_step p t f fs f.run.code)
stage_step p t f fs c (Post k v) thread = post_step (has_action p c.function true k) f fs c k v thread

abbrev pub frame_step : Program → ℕ → Frame → List Frame → Option Crossing → Thread → Step
frame_step p t f fs None thread = if_paid thread (instruction_step p t f fs f.run.code)
frame_step p t f fs (Some c) thread = stage_step p t f fs c c.stage thread

-- the start of the first call that is left
abbrev pub start_step : List ScriptCall → Thread → Step
start_step [] thread = comes_to Budget thread
start_step (c ∷ cs) thread = if_paid thread (λ poorer. Asks poorer (request Kernel (what.Enter (Script c.function) c.args)))

abbrev pub undue_step : Program → ℕ → List Frame → Thread → Step
undue_step p t [] thread = start_step thread.calls thread
undue_step p t (f ∷ fs) thread = frame_step p t f fs f.crossing thread

abbrev pub due_or : Option Outcome → Thread → Step → Step
due_or (Some o) thread step = Asks thread (finish o)
due_or None thread step = step

-- the next step of a thread
abbrev pub step : Program → ℕ → Thread → Step
step p t thread = due_or thread.due thread (undue_step p t thread.frames thread)

-- a thread that asks
pub record Asking : Type 0 where
  pub thread : Thread
  pub request : Request

-- at most so many steps
abbrev pub next_within : ℕ → Program → ℕ → Thread → Asking
next_within zero p t thread = record { thread = thread; request = finish Budget }
next_within (suc n) p t thread =
    elim (step p t thread) [ Goes further ↦ next_within n p t further | Asks further r ↦ record { thread = further; request = r } ]

-- how many register steps a thread may take: each costs a unit, but the leaving of a crossing
abbrev pub steps_left : Thread → ℕ
steps_left thread = 2 * thread.fuel + length thread.frames

-- the thread at its next request
abbrev pub next : Program → ℕ → Thread → Asking
next p t thread = next_within (2 * thread.fuel + length thread.frames + 1) p t thread

-- what a reply does

abbrev pub on_top : (Frame → Frame) → List Frame → List Frame
on_top change [] = []
on_top change (f ∷ fs) = change f ∷ fs

-- the top frame goes past its instruction, with a value or none
abbrev pub thread_behind : Option Word → Thread → Thread
thread_behind v thread = record thread { frames = on_top (λ f. with_run f (activation_behind v f.run)) thread.frames }

-- the function has bytes of the stack
abbrev pub with_alloca : ℕ → ℕ → Activation → Activation
with_alloca at size a = record a { high = at + size; allocas = record { at = at; size = size } ∷ a.allocas }

-- the top frame has bytes of the stack
abbrev pub with_stack_bytes : ℕ → ℕ → Thread → Thread
with_stack_bytes at size thread = record thread { frames = on_top (λ f. with_run f (with_alloca at size f.run)) thread.frames }

abbrev pub first_stage : Bool → Stage
first_stage true = Pre 0
first_stage false = Body

abbrev pub crossing_if : Bool → Crossing → Option Crossing
crossing_if true c = Some c
crossing_if false c = None

-- the frame of a function that is entered
abbrev pub entered_frame : Program → ℕ → Principal → List Word → List Frame → ℕ → Principal → Bool → Frame
entered_frame p t source args frames n q crosses =
    record {
      run = activation p n args (top_of_stack t frames);
      principal = q;
      crossing = crossing_if crosses (record { function = n; source = source; args = args; stage = first_stage (has_action p n false 0) });
    }

-- the site of an indirect call has the function's result width
abbrev pub fits_site : Program → Way → List Frame → ℕ → Bool
fits_site p (Indirect a) (f ∷ fs) n = same_result (call_result f.run.code) (option_and_then result_width (function_of p n))
fits_site p _ frames n = true

abbrev pub way_address : Way → ℕ
way_address (Indirect a) = a
way_address _ = 0

abbrev pub after_entry : Bool → Way → Frame → Thread → Thread
after_entry true way f thread = record thread { frames = f ∷ thread.frames }
after_entry false way f thread = with_due (Trapped (Signature (way_address way))) thread

-- the stage behind one
abbrev pub next_stage : Program → ℕ → Stage → Stage
next_stage p n (Pre k) = if has_action p n false (suc k) then Pre (suc k) else Body
next_stage p n Body = Body
next_stage p n (Post k v) = Post (suc k) v

abbrev pub crossing_on : Program → Option Crossing → Option Crossing
crossing_on p None = None
crossing_on p (Some c) = Some (record c { stage = next_stage p c.function c.stage })

-- the top frame's crossing is behind its action
abbrev pub after_action : Program → Thread → Thread
after_action p thread = record thread { frames = on_top (λ f. record f { crossing = crossing_on p f.crossing }) thread.frames }

-- the function's bytes are gone
abbrev pub without_allocas : Activation → Activation
without_allocas a = record a { allocas = [] }

-- a frame that has returned a value: a crossing goes on to its actions behind the body, any other frame is left
abbrev pub after_ret_of : Option Crossing → Frame → List Frame → Option Word → Thread → Thread
after_ret_of None f fs v thread = after_leaving v fs thread
after_ret_of (Some c) f fs v thread =
    record thread { frames = record f { run = without_allocas f.run; crossing = Some (record c { stage = Post 0 v }) } ∷ fs }

abbrev pub after_ret : Program → List Frame → Thread → Thread
after_ret p [] thread = thread
after_ret p (f ∷ fs) thread = after_ret_of f.crossing f fs (returned_value p f.run) thread

-- the first call that is left has ended
abbrev pub other_calls : List ScriptCall → List ScriptCall
other_calls [] = []
other_calls (c ∷ cs) = cs

abbrev pub ending : Outcome → List ScriptCall → List Ending
ending o [] = []
ending o (c ∷ cs) = record { function = c.function; outcome = o } ∷ []

abbrev pub after_end : Outcome → Thread → Thread
after_end o thread =
    record {
      calls = other_calls thread.calls;
      ended = thread.ended ++ ending o thread.calls;
      fuel = first_fuel (other_calls thread.calls);
      due = None;
      frames = [];
    }

-- a reply that ends nothing
abbrev pub after_reply : Program → ℕ → Thread → Principal → What → Reply → Thread
after_reply p t thread who (what.Alloca at size) reply = thread_behind (Some (word W64 at)) (with_stack_bytes at size thread)
after_reply p t thread who (what.Enter way args) (Entered n q crosses) =
    after_entry (fits_site p way thread.frames n) way (entered_frame p t who args thread.frames n q crosses) thread
after_reply p t thread who (what.Perform n post k env source dest) reply = after_action p thread
after_reply p t thread who (what.Return low high) reply = after_ret p thread.frames thread
after_reply p t thread who w (Value v) = thread_behind (Some v) thread
after_reply p t thread who w reply = thread_behind None thread

-- the thread takes a reply in
abbrev pub absorb : Program → ℕ → Thread → Request → Reply → Thread
absorb p t thread r (Ended o) = after_end o thread
absorb p t thread r reply = after_reply p t thread r.who r.what reply
