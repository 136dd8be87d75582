-- The machine that counts the actions of wrappers: what the machine of images does where its wrappers have the lines of their annotations.
use Rattle.std.specs.Prelude.{ℕ, zero, suc, ◌+◌, ◌*◌, Bool, true, false, Option, Some, None, List, [], ◌∷◌, ◌++◌, nat_lt, length, option_and_then}
use Rattle.lx_words.specs.declared.word.Width.TheVariants.{W64}
use Rattle.lx_words.specs.Word.{Word, word}
use Rattle.lx_caps.specs.declared.Principal.{Principal}
use Rattle.lx_caps.specs.declared.Principal.TheVariants.{Kernel}
use Rattle.lx_ir.specs.declared.instr.Op.{Op}
use Rattle.lx_ir.specs.declared.instr.Op.TheVariants as op
use Rattle.lx_model.specs.declared.program.ScriptCall.{ScriptCall}
use Rattle.lx_model.specs.declared.request.Outcome.{Outcome}
use Rattle.lx_model.specs.declared.request.Outcome.TheVariants.{Returned, Trapped, Budget}
use Rattle.lx_model.specs.declared.request.Trap.TheVariants.{TooDeep, Unreachable, Signature}
use Rattle.lx_model.specs.declared.request.Way.{Way}
use Rattle.lx_model.specs.declared.request.Way.TheVariants.{Script, Direct, Indirect}
use Rattle.lx_model.specs.declared.request.What.{What}
use Rattle.lx_model.specs.declared.request.What.TheVariants as what
use Rattle.lx_model.specs.declared.request.Request.{Request}
use Rattle.lx_model.specs.declared.request.Reply.{Reply}
use Rattle.lx_model.specs.declared.request.Reply.TheVariants.{Value, Entered, Ended}
use Rattle.lx_model.specs.Program.{Home, function_of, result_width, same_result}
use Rattle.lx_model.specs.Thread.{Activation, Ending, start_of, activation_behind, first_fuel}
use Rattle.lx_model.specs.Effect.{Effect, Moves, Wants, Enters, Calls, Traps, text_of, bits, effect, returned_value, call_result}
use Rattle.lx_model.specs.Next.{request, finish, frame_limit, has_action, way_address, with_alloca, other_calls, ending}
use Rattle.lx_caps.specs.Regions.{stack_start}
pub use Rattle.lx_images.specs.Code.{Code, image_of_entry, image_function, image_routine, wrapped_name, out_import, wrapped_import}
pub use Rattle.lx_images.specs.Image.{Marks, no_marks, top, tail, below_top, covered, is_checked, principal_if, module_asker, asker, wrapper_args, shadow_with}

-- the line at which a wrapper stands. The free lines AtCall, AtLeave and AtRet are passed with the step before them
pub data Place : Type 0 where
  AtEnter : Place
  AtPre : ℕ → Place
  AtCall : Place
  InBody : Place
  AtPost : ℕ → Option Word → Place
  AtLeave : Option Word → Place
  AtRet : Option Word → Place

-- a frame: a function that runs, or a wrapper round one
pub data ImageFrame : Type 0 where
  Runs : Activation → ImageFrame
  -- the wrapper of the program's function with this number, its arguments, and its line
  Wraps : ℕ → List Word → Place → ImageFrame

-- a thread: its calls, those that have ended, the fuel that is left, an outcome that it comes to, its frames, the top one first, and
-- the principals of its wrappers, the innermost first
pub record ImageThread : Type 0 where
  pub calls : List ScriptCall
  pub ended : List Ending
  pub fuel : ℕ
  pub due : Option Outcome
  pub frames : List ImageFrame
  pub shadow : List Principal

-- how many frames run a function
abbrev pub running : List ImageFrame → ℕ
running [] = 0
running (Runs a ∷ fs) = suc (running fs)
running (Wraps n args place ∷ fs) = running fs

-- where the next frame's part of the stack begins
abbrev pub stack_top : ℕ → List ImageFrame → ℕ
stack_top t [] = stack_start t
stack_top t (Runs a ∷ fs) = a.high
stack_top t (Wraps n args place ∷ fs) = stack_top t fs

-- what a thread does next: a register step, or a request
pub data ImageStep : Type 0 where
  Goes : ImageThread → ImageStep
  Asks : ImageThread → Request → ImageStep

-- an outcome is due, and the frames are gone
abbrev pub with_due : Outcome → ImageThread → ImageThread
with_due o v = record v { due = Some o; frames = []; shadow = [] }

-- an outcome becomes due, and is asked for
abbrev pub comes_to : Outcome → ImageThread → ImageStep
comes_to o v = Asks (with_due o v) (finish o)

-- a step that costs a unit: without fuel the call comes to its budget's end
abbrev pub if_paid : ImageThread → (ImageThread → ImageStep) → ImageStep
if_paid v go = elim v.fuel [ zero ↦ comes_to Budget v | suc n ↦ go (record v { fuel = n }) ]

-- the thread with these frames
abbrev pub with_frames : List ImageFrame → ImageThread → ImageThread
with_frames fs v = record v { frames = fs }

-- the thread with these principals
abbrev pub with_shadow : List Principal → ImageThread → ImageThread
with_shadow shadow v = record v { shadow = shadow }

-- a frame is left: its caller goes on with the value, or a wrapper goes on to its actions behind the body
abbrev pub after_leaving : Option Word → List ImageFrame → ImageThread → ImageThread
after_leaving x [] v = with_due (Returned x) v
after_leaving x (Runs a ∷ fs) v = with_frames (Runs (activation_behind x a) ∷ fs) v
after_leaving x (Wraps n args place ∷ fs) v = with_frames (Wraps n args (AtPost 0 x) ∷ fs) v

-- the marks

-- steps of a running function: `v` is the thread, `a` its top frame, which may stand behind marks, and `fs` those below

-- a further function may run
abbrev pub has_room : List ImageFrame → Bool
has_room fs = nat_lt (running fs) frame_limit

-- a step that adds a running function
abbrev pub if_room : Bool → ImageThread → ImageStep → ImageStep
if_room true v step = step
if_room false v step = comes_to (Trapped TooDeep) v

-- a request of a running function's text, with these frames
abbrev pub asking : Home → Marks → ImageThread → List ImageFrame → What → ImageStep
asking home m v fs x = Asks (with_frames fs v) (request (asker home m v.shadow x) x)

-- what an instruction does comes to this step
abbrev pub effect_step : Code → ImageThread → Marks → Activation → List ImageFrame → Effect → ImageStep
effect_step c v m a fs (Moves b) = Goes (with_frames (Runs b ∷ fs) v)
effect_step c v m a fs (Wants x) = asking (text_of c.program a) m v (Runs a ∷ fs) x
effect_step c v m a fs (Enters x) = if_room (has_room (Runs a ∷ fs)) v (asking (text_of c.program a) m v (Runs a ∷ fs) x)
effect_step c v m a fs (Calls n args) =
    if_room (has_room (Runs a ∷ fs)) v (Goes (with_frames (Runs (start_of n (image_routine c n) args a.high) ∷ Runs a ∷ fs) v))
effect_step c v m a fs (Traps trap) = comes_to (Trapped trap) v

-- the call of a wrapper, whose first line asks for the enter
abbrev pub wrapper_call : ImageThread → Activation → List ImageFrame → ℕ → List Word → ImageStep
wrapper_call v a fs n args =
    if_room (has_room (Runs a ∷ fs)) v (Asks (with_frames (Wraps n args AtEnter ∷ Runs a ∷ fs) v) (request (top v.shadow) (what.Enter (Direct n) args)))

-- an instruction that costs a unit: the call of a wrapper, or what the program has
abbrev pub costly_step : Code → Marks → Activation → List ImageFrame → Op → Option ℕ → ImageThread → ImageStep
costly_step c m a fs o (Some n) v = wrapper_call v a fs n (wrapper_args c a o)
costly_step c m a fs o None v = effect_step c v m a fs (effect c.program a o)

-- a guard and a check set their mark, and cost nothing; what is behind them empties both
abbrev pub one_step : Code → ImageThread → Marks → Activation → List ImageFrame → Op → (Marks → Activation → ImageStep) → ImageStep
one_step c v m a fs (op.Guard at size narrow) behind = behind (record m { guarded = Some (bits c.program a at, bits c.program a size) }) (activation_behind None a)
one_step c v m a fs (op.Check target) behind = behind (record m { checked = Some (bits c.program a target) }) (activation_behind None a)
one_step c v m a fs o behind = if_paid v (costly_step c m a fs o (wrapped_import c (text_of c.program a) o))

-- the step of an instruction, behind its marks
abbrev pub instruction_step : Code → ImageThread → List ImageFrame → List Op → Marks → Activation → ImageStep
instruction_step c v fs [] m a = if_paid v (comes_to (Trapped Unreachable))
instruction_step c v fs (o ∷ os) m a = one_step c v m a fs o (instruction_step c v fs os)

-- steps of a wrapper

-- a request for the action with this number, before the body or behind it, from one principal to another
abbrev pub perform : ImageThread → ℕ → Bool → ℕ → List Word → Option Word → Principal → Principal → ImageStep
perform v n post k args x source dest =
    if_paid v (λ w. Asks w (request source (what.Perform n post k (record { args = args; ret = x }) source dest)))

-- behind the last action the wrapper is left, and its principal with it
abbrev pub post_line : Bool → ImageThread → ℕ → List Word → ℕ → Option Word → List ImageFrame → ImageStep
post_line true v n args k x fs = perform v n true k args x (top v.shadow) (below_top v.shadow)
post_line false v n args k x fs = Goes (after_leaving x fs (with_shadow (tail v.shadow) v))

-- the step of a wrapper that stands before an action, or behind the last one
abbrev pub wrapper_line : Code → ImageThread → ℕ → List Word → Place → List ImageFrame → ImageStep
wrapper_line c v n args (AtPre k) fs = perform v n false k args None (below_top v.shadow) (top v.shadow)
wrapper_line c v n args (AtPost k x) fs = post_line (has_action c.program n true k) v n args k x fs
wrapper_line c v n args place fs = comes_to (Trapped Unreachable) v

-- the start of the first call that is left
abbrev pub start_step : List ScriptCall → ImageThread → ImageStep
start_step [] v = comes_to Budget v
start_step (call ∷ calls) v = if_paid v (λ w. Asks w (request Kernel (what.Enter (Script call.function) call.args)))

-- the step of the frame on top
abbrev pub frame_step : Code → ImageThread → List ImageFrame → ImageStep
frame_step c v [] = start_step v.calls v
frame_step c v (Runs a ∷ fs) = instruction_step c v fs a.code no_marks a
frame_step c v (Wraps n args place ∷ fs) = wrapper_line c v n args place fs

-- an outcome that is due comes first
abbrev pub due_or : Option Outcome → ImageThread → ImageStep → ImageStep
due_or (Some o) v step = Asks v (finish o)
due_or None v step = step

-- the next step of a thread
abbrev pub image_step : Code → ImageThread → ImageStep
image_step c v = due_or v.due v (frame_step c v v.frames)

-- a thread that asks
pub record ImageAsking : Type 0 where
  pub thread : ImageThread
  pub request : Request

-- at most so many steps
abbrev pub image_next_within : ℕ → Code → ImageThread → ImageAsking
image_next_within zero c v = record { thread = v; request = finish Budget }
image_next_within (suc n) c v =
    elim (image_step c v) [ Goes w ↦ image_next_within n c w | Asks w r ↦ record { thread = w; request = r } ]

-- the thread at its next request: as many steps as the thread that it stands for has at most
abbrev pub image_next : Code → ImageThread → ImageAsking
image_next c v = image_next_within (2 * v.fuel + length v.frames + 1) c v

-- what a reply does

-- changes the running function on top
abbrev pub on_running : (Activation → Activation) → List ImageFrame → List ImageFrame
on_running change (Runs a ∷ fs) = Runs (change a) ∷ fs
on_running change fs = fs

-- the function on top goes past its instruction, with a value or none
abbrev pub past_instruction : Option Word → ImageThread → ImageThread
past_instruction x v = with_frames (on_running (activation_behind x) v.frames) v

-- a wrapper before an action, or behind the last one in its body
abbrev pub before_body : Code → ℕ → Bool → ℕ → ℕ → List Word → List ImageFrame → List ImageFrame
before_body c t true k n args fs = Wraps n args (AtPre k) ∷ fs
before_body c t false k n args fs = Runs (start_of n (image_routine c n) args (stack_top t fs)) ∷ Wraps n args InBody ∷ fs

-- a wrapper before the action with this number, or in its body where there is none
abbrev pub at_pre : Code → ℕ → ℕ → ℕ → List Word → List ImageFrame → List ImageFrame
at_pre c t k n args fs = before_body c t (has_action c.program n false k) k n args fs

-- a wrapper is entered behind its enter; any other function runs at once
abbrev pub entered_frames : Code → ℕ → Bool → ℕ → List Word → List ImageFrame → List ImageFrame
entered_frames c t true n args fs = at_pre c t 0 n args fs
entered_frames c t false n args fs = Runs (start_of n (image_routine c n) args (stack_top t fs)) ∷ fs

-- the site of an indirect call has the function's result width
abbrev pub fits_site : Code → Way → List ImageFrame → ℕ → Bool
fits_site c (Indirect b) (Runs a ∷ fs) n = same_result (call_result a.code) (option_and_then result_width (function_of c.program n))
fits_site c _ fs n = true

-- a function is entered, or the site does not fit it
abbrev pub after_entry : Code → ℕ → Bool → Way → List Word → ℕ → Principal → Bool → ImageThread → ImageThread
after_entry c t true way args n q crosses v =
    record v { shadow = shadow_with crosses q v.shadow; frames = entered_frames c t crosses n args v.frames }
after_entry c t false way args n q crosses v = with_due (Trapped (Signature (way_address way))) v

-- the wrapper on top is behind its enter
abbrev pub behind_enter : Code → ℕ → List ImageFrame → List ImageFrame
behind_enter c t (Wraps n args place ∷ fs) = at_pre c t 0 n args fs
behind_enter c t fs = fs

-- a wrapper behind an action
abbrev pub behind_action : Code → ℕ → ℕ → List Word → Place → List ImageFrame → List ImageFrame
behind_action c t n args (AtPre k) fs = at_pre c t (suc k) n args fs
behind_action c t n args (AtPost k x) fs = Wraps n args (AtPost (suc k) x) ∷ fs
behind_action c t n args place fs = Wraps n args place ∷ fs

-- the wrapper on top is behind its action
abbrev pub after_action : Code → ℕ → List ImageFrame → List ImageFrame
after_action c t (Wraps n args place ∷ fs) = behind_action c t n args place fs
after_action c t fs = fs

-- the function on top returns
abbrev pub after_ret : Code → List ImageFrame → ImageThread → ImageThread
after_ret c (Runs a ∷ fs) v = after_leaving (returned_value c.program a) fs v
after_ret c fs v = v

-- the first call that is left has ended
abbrev pub after_end : Outcome → ImageThread → ImageThread
after_end o v =
    record {
      calls = other_calls v.calls;
      ended = v.ended ++ ending o v.calls;
      fuel = first_fuel (other_calls v.calls);
      due = None;
      frames = [];
      shadow = [];
    }

-- a reply that ends nothing
abbrev pub after_reply : Code → ℕ → ImageThread → What → Reply → ImageThread
after_reply c t v (what.Alloca at size) reply =
    with_frames (on_running (λ a. activation_behind (Some (word W64 at)) (with_alloca at size a)) v.frames) v
after_reply c t v (what.Enter (Direct f) args) (Entered n q crosses) = record v { shadow = q ∷ v.shadow; frames = behind_enter c t v.frames }
after_reply c t v (what.Enter way args) (Entered n q crosses) = after_entry c t (fits_site c way v.frames n) way args n q crosses v
after_reply c t v (what.Perform n post k env source dest) reply = with_frames (after_action c t v.frames) v
after_reply c t v (what.Return low high) reply = after_ret c v.frames v
after_reply c t v w (Value x) = past_instruction (Some x) v
after_reply c t v w reply = past_instruction None v

-- the thread takes a reply in
abbrev pub image_absorb : Code → ℕ → ImageThread → Request → Reply → ImageThread
image_absorb c t v r (Ended o) = after_end o v
image_absorb c t v r reply = after_reply c t v r.what reply
