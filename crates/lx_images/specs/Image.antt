-- The machine of instrumented code: wrappers run line by line, beside a shadow stack of principals and two marks.
use Rattle.std.specs.Prelude.{ℕ, zero, suc, ◌+◌, ◌*◌, Bool, true, false, ◌&&◌, Option, Some, None, List, [], ◌∷◌, ◌++◌, nat_eq, nat_le, nat_lt, length, option_and_then}
use Rattle.lx_words.specs.declared.word.Width.TheVariants.{W64}
use Rattle.lx_words.specs.Width.{byte_count}
use Rattle.lx_words.specs.Word.{Word, word}
use Rattle.lx_caps.specs.declared.Principal.{Principal}
use Rattle.lx_caps.specs.declared.Principal.TheVariants.{Kernel}
use Rattle.lx_caps.specs.Regions.{stack_start}
use Rattle.lx_ir.specs.declared.instr.Op.{Op}
use Rattle.lx_ir.specs.declared.instr.Op.TheVariants as op
use Rattle.lx_model.specs.declared.program.ScriptCall.{ScriptCall}
use Rattle.lx_model.specs.declared.request.Outcome.{Outcome}
use Rattle.lx_model.specs.declared.request.Outcome.TheVariants.{Returned, Trapped, Budget}
use Rattle.lx_model.specs.declared.request.Trap.TheVariants.{TooDeep, Unreachable, Signature}
use Rattle.lx_model.specs.declared.request.Way.{Way}
use Rattle.lx_model.specs.declared.request.Way.TheVariants.{Script, Direct, Indirect}
use Rattle.lx_model.specs.declared.request.What.{What}
use Rattle.lx_model.specs.declared.request.What.TheVariants as what
use Rattle.lx_model.specs.declared.request.Request.{Request}
use Rattle.lx_model.specs.declared.request.Reply.{Reply}
use Rattle.lx_model.specs.declared.request.Reply.TheVariants.{Value, Entered, Ended}
use Rattle.lx_model.specs.Program.{Home, function_of, result_width, same_result}
use Rattle.lx_model.specs.Thread.{Activation, Ending, start_of, behind_head, activation_behind, first_fuel}
use Rattle.lx_model.specs.Effect.{Effect, Moves, Wants, Enters, Calls, Traps, text_of, bits, argument_words, effect, returned_value, call_result}
use Rattle.lx_model.specs.Next.{request, finish, frame_limit, has_action, way_address, with_alloca, other_calls, ending}
pub use Rattle.lx_images.specs.Code.{Code, image_of_entry, image_function, image_routine, wrapped_name, out_import, wrapped_import}
use Rattle.lx_images.specs.Wrappers.{called_lines, in_lines}

-- a frame: a function that runs, or a wrapper round one
pub data ImageFrame : Type 0 where
  Runs : Activation → ImageFrame
  -- the wrapper of the program's function with this number: its arguments, the lines that are left of it, and what its call gave
  Wraps : ℕ → List Word → List Op → Option Word → ImageFrame

-- a thread: its calls, those that have ended, the fuel that is left, an outcome that it comes to, its frames, the top one first, and
-- the principals of its wrappers, the innermost first
pub record ImageThread : Type 0 where
  pub calls : List ScriptCall
  pub ended : List Ending
  pub fuel : ℕ
  pub due : Option Outcome
  pub frames : List ImageFrame
  pub shadow : List Principal

-- what a guard and a check have left for the next instruction
pub record Marks : Type 0 where
  pub guarded : Option (ℕ × ℕ)
  pub checked : Option ℕ

-- neither a guard nor a check stands before the next instruction
abbrev pub no_marks : Marks
no_marks = record { guarded = None; checked = None }

-- the principal on top, and the one below it
abbrev pub top : List Principal → Principal
top [] = Kernel
top (q ∷ qs) = q

-- the principals but the one on top
abbrev pub tail : List Principal → List Principal
tail [] = []
tail (q ∷ qs) = qs

-- the principal below the one on top
abbrev pub below_top : List Principal → Principal
below_top shadow = top (tail shadow)

-- how many frames run a function
abbrev pub running : List ImageFrame → ℕ
running [] = 0
running (Runs a ∷ fs) = suc (running fs)
running (Wraps n args lines x ∷ fs) = running fs

-- where the next frame's part of the stack begins
abbrev pub stack_top : ℕ → List ImageFrame → ℕ
stack_top t [] = stack_start t
stack_top t (Runs a ∷ fs) = a.high
stack_top t (Wraps n args lines x ∷ fs) = stack_top t fs

-- what a thread does next: a register step, or a request
pub data ImageStep : Type 0 where
  Goes : ImageThread → ImageStep
  Asks : ImageThread → Request → ImageStep

-- an outcome is due, and the frames are gone
abbrev pub with_due : Outcome → ImageThread → ImageThread
with_due o v = record v { due = Some o; frames = []; shadow = [] }

-- an outcome becomes due, and is asked for
abbrev pub comes_to : Outcome → ImageThread → ImageStep
comes_to o v = Asks (with_due o v) (finish o)

-- a step that costs a unit: without fuel the call comes to its budget's end
abbrev pub if_paid : ImageThread → (ImageThread → ImageStep) → ImageStep
if_paid v go = elim v.fuel [ zero ↦ comes_to Budget v | suc n ↦ go (record v { fuel = n }) ]

-- the thread with these frames
abbrev pub with_frames : List ImageFrame → ImageThread → ImageThread
with_frames fs v = record v { frames = fs }

-- the thread with these principals
abbrev pub with_shadow : List Principal → ImageThread → ImageThread
with_shadow shadow v = record v { shadow = shadow }

-- a frame is left: its caller goes on with the value, and a wrapper with what its call gave
abbrev pub after_leaving : Option Word → List ImageFrame → ImageThread → ImageThread
after_leaving x [] v = with_due (Returned x) v
after_leaving x (Runs a ∷ fs) v = with_frames (Runs (activation_behind x a) ∷ fs) v
after_leaving x (Wraps n args lines old ∷ fs) v = with_frames (Wraps n args lines x ∷ fs) v

-- the marks

-- the guard names all of the `size` bytes from `at`
abbrev pub covered : Option (ℕ × ℕ) → ℕ → ℕ → Bool
covered None at size = false
covered (Some g) at size = nat_le g.0 at && nat_le (at + size) (g.0 + g.1)

-- the check names this address
abbrev pub is_checked : Option ℕ → ℕ → Bool
is_checked None a = false
is_checked (Some b) a = nat_eq a b

-- the principal on top where the mark is there, and the kernel otherwise
abbrev pub principal_if : Bool → List Principal → Principal
principal_if true shadow = top shadow
principal_if false shadow = Kernel

-- for whom a module's text makes a request
abbrev pub module_asker : Marks → List Principal → What → Principal
module_asker m shadow (what.Store at w) = principal_if (covered m.guarded at (byte_count w.width)) shadow
module_asker m shadow (what.Copy to from len) = principal_if (covered m.guarded to len) shadow
module_asker m shadow (what.Fill to byte len) = principal_if (covered m.guarded to len) shadow
module_asker m shadow (what.Enter (Indirect a) args) = principal_if (is_checked m.checked a) shadow
module_asker m shadow w = top shadow

-- for whom a text makes a request: the kernel's always for the kernel
abbrev pub asker : Home → Marks → List Principal → What → Principal
asker None m shadow w = Kernel
asker (Some n) m shadow w = module_asker m shadow w

-- steps of a running function: `v` is the thread, `a` its top frame, which may stand behind marks, and `fs` those below

-- a further function may run
abbrev pub has_room : List ImageFrame → Bool
has_room fs = nat_lt (running fs) frame_limit

-- a step that adds a running function
abbrev pub if_room : Bool → ImageThread → ImageStep → ImageStep
if_room true v step = step
if_room false v step = comes_to (Trapped TooDeep) v

-- a request of a running function's text, with these frames
abbrev pub asking : Home → Marks → ImageThread → List ImageFrame → What → ImageStep
asking home m v fs x = Asks (with_frames fs v) (request (asker home m v.shadow x) x)

-- what an instruction does comes to this step
abbrev pub effect_step : Code → ImageThread → Marks → Activation → List ImageFrame → Effect → ImageStep
effect_step c v m a fs (Moves b) = Goes (with_frames (Runs b ∷ fs) v)
effect_step c v m a fs (Wants x) = asking (text_of c.program a) m v (Runs a ∷ fs) x
effect_step c v m a fs (Enters x) = if_room (has_room (Runs a ∷ fs)) v (asking (text_of c.program a) m v (Runs a ∷ fs) x)
effect_step c v m a fs (Calls n args) =
    if_room (has_room (Runs a ∷ fs)) v (Goes (with_frames (Runs (start_of n (image_routine c n) args a.high) ∷ Runs a ∷ fs) v))
effect_step c v m a fs (Traps trap) = comes_to (Trapped trap) v

-- the arguments of a call
abbrev pub wrapper_args : Code → Activation → Op → List Word
wrapper_args c a (op.Call to ret callee args) = argument_words c.program a args
wrapper_args c a _ = []

-- a called wrapper's first line asks for the enter; a wrapper that begins with another line cannot run
abbrev pub first_line : ImageThread → ℕ → List Word → List ImageFrame → List Op → ImageStep
first_line v n args fs (op.Enter s ∷ lines) =
    Asks (with_frames (Wraps n args (op.Enter s ∷ lines) None ∷ fs) v) (request (top v.shadow) (what.Enter (Direct n) args))
first_line v n args fs lines = comes_to (Trapped Unreachable) v

-- the call of a wrapper
abbrev pub wrapper_call : ImageThread → Activation → List ImageFrame → ℕ → List Word → List Op → ImageStep
wrapper_call v a fs n args lines = if_room (has_room (Runs a ∷ fs)) v (first_line v n args (Runs a ∷ fs) lines)

-- an instruction that costs a unit: the call of a wrapper, or what the program has
abbrev pub costly_step : Code → Marks → Activation → List ImageFrame → Op → Option ℕ → ImageThread → ImageStep
costly_step c m a fs o (Some n) v = wrapper_call v a fs n (wrapper_args c a o) (called_lines c (text_of c.program a) o)
costly_step c m a fs o None v = effect_step c v m a fs (effect c.program a o)

-- a guard and a check set their mark, and cost nothing; what is behind them empties both
abbrev pub one_step : Code → ImageThread → Marks → Activation → List ImageFrame → Op → (Marks → Activation → ImageStep) → ImageStep
one_step c v m a fs (op.Guard at size narrow) behind = behind (record m { guarded = Some (bits c.program a at, bits c.program a size) }) (activation_behind None a)
one_step c v m a fs (op.Check target) behind = behind (record m { checked = Some (bits c.program a target) }) (activation_behind None a)
one_step c v m a fs o behind = if_paid v (costly_step c m a fs o (wrapped_import c (text_of c.program a) o))

-- the step of an instruction, behind its marks
abbrev pub instruction_step : Code → ImageThread → List ImageFrame → List Op → Marks → Activation → ImageStep
instruction_step c v fs [] m a = if_paid v (comes_to (Trapped Unreachable))
instruction_step c v fs (o ∷ os) m a = one_step c v m a fs o (instruction_step c v fs os)

-- steps of a wrapper: each line does what it says

-- a request for an action, from one principal to another, where the function has an action of this number
abbrev pub action_line : Bool → ImageThread → ℕ → Bool → ℕ → List Word → Option Word → Principal → Principal → ImageStep
action_line true v n post k args x source dest =
    if_paid v (λ w. Asks w (request source (what.Perform n post k (record { args = args; ret = x }) source dest)))
action_line false v n post k args x source dest = comes_to (Trapped Unreachable) v

-- behind the line that leaves stands the `ret`
abbrev pub leaving_line : ImageThread → Option Word → List ImageFrame → List Op → ImageStep
leaving_line v x fs (op.Ret r ∷ lines) = Goes (after_leaving x fs v)
leaving_line v x fs lines = comes_to (Trapped Unreachable) v

-- the line at which a wrapper stands: an action from the caller to the callee, one back, the leaving of the wrapper and of its
-- principal, or the `ret` alone, which leaves the principal where it is
abbrev pub wrapper_line : Code → ImageThread → ℕ → List Word → Option Word → List ImageFrame → List Op → ImageStep
wrapper_line c v n args x fs (op.Pre s k ∷ lines) = action_line (has_action c.program n false k) v n false k args None (below_top v.shadow) (top v.shadow)
wrapper_line c v n args x fs (op.Post s k ∷ lines) = action_line (has_action c.program n true k) v n true k args x (top v.shadow) (below_top v.shadow)
wrapper_line c v n args x fs (op.Leave s ∷ lines) = leaving_line (with_shadow (tail v.shadow) v) x fs lines
wrapper_line c v n args x fs (op.Ret r ∷ lines) = leaving_line v x fs (op.Ret r ∷ lines)
wrapper_line c v n args x fs lines = comes_to (Trapped Unreachable) v

-- the start of the first call that is left
abbrev pub start_step : List ScriptCall → ImageThread → ImageStep
start_step [] v = comes_to Budget v
start_step (call ∷ calls) v = if_paid v (λ w. Asks w (request Kernel (what.Enter (Script call.function) call.args)))

-- the step of the frame on top
abbrev pub frame_step : Code → ImageThread → List ImageFrame → ImageStep
frame_step c v [] = start_step v.calls v
frame_step c v (Runs a ∷ fs) = instruction_step c v fs a.code no_marks a
frame_step c v (Wraps n args lines x ∷ fs) = wrapper_line c v n args x fs lines

-- an outcome that is due comes first
abbrev pub due_or : Option Outcome → ImageThread → ImageStep → ImageStep
due_or (Some o) v step = Asks v (finish o)
due_or None v step = step

-- the next step of a thread
abbrev pub image_step : Code → ImageThread → ImageStep
image_step c v = due_or v.due v (frame_step c v v.frames)

-- a thread that asks
pub record ImageAsking : Type 0 where
  pub thread : ImageThread
  pub request : Request

-- at most so many steps
abbrev pub image_next_within : ℕ → Code → ImageThread → ImageAsking
image_next_within zero c v = record { thread = v; request = finish Budget }
image_next_within (suc n) c v =
    elim (image_step c v) [ Goes w ↦ image_next_within n c w | Asks w r ↦ record { thread = w; request = r } ]

-- the thread at its next request: as many steps as the thread that it stands for has at most
abbrev pub image_next : Code → ImageThread → ImageAsking
image_next c v = image_next_within (2 * v.fuel + length v.frames + 1) c v

-- what a reply does

-- changes the running function on top
abbrev pub on_running : (Activation → Activation) → List ImageFrame → List ImageFrame
on_running change (Runs a ∷ fs) = Runs (change a) ∷ fs
on_running change fs = fs

-- the function on top goes past its instruction, with a value or none
abbrev pub past_instruction : Option Word → ImageThread → ImageThread
past_instruction x v = with_frames (on_running (activation_behind x) v.frames) v

-- a wrapper with these lines left: at its call it goes into the body, and before any other line it stands
abbrev pub at_lines : Code → ℕ → ℕ → List Word → Option Word → List ImageFrame → List Op → List ImageFrame
at_lines c t n args x fs (op.Call to ret callee as' ∷ lines) = Runs (start_of n (image_routine c n) args (stack_top t fs)) ∷ Wraps n args lines x ∷ fs
at_lines c t n args x fs lines = Wraps n args lines x ∷ fs

-- a wrapper that is entered stands behind its first line, its enter, which has been served; any other function runs at once
abbrev pub entered_frames : Code → ℕ → Bool → ℕ → List Word → List ImageFrame → List ImageFrame
entered_frames c t true n args fs = at_lines c t n args None fs (behind_head (in_lines c n))
entered_frames c t false n args fs = Runs (start_of n (image_routine c n) args (stack_top t fs)) ∷ fs

-- the principals with one more, where a call crosses
abbrev pub shadow_with : Bool → Principal → List Principal → List Principal
shadow_with true q shadow = q ∷ shadow
shadow_with false q shadow = shadow

-- the site of an indirect call has the function's result width
abbrev pub fits_site : Code → Way → List ImageFrame → ℕ → Bool
fits_site c (Indirect b) (Runs a ∷ fs) n = same_result (call_result a.code) (option_and_then result_width (function_of c.program n))
fits_site c _ fs n = true

-- a function is entered, or the site does not fit it
abbrev pub after_entry : Code → ℕ → Bool → Way → List Word → ℕ → Principal → Bool → ImageThread → ImageThread
after_entry c t true way args n q crosses v =
    record v { shadow = shadow_with crosses q v.shadow; frames = entered_frames c t crosses n args v.frames }
after_entry c t false way args n q crosses v = with_due (Trapped (Signature (way_address way))) v

-- the wrapper on top is behind the line that it asked by
abbrev pub behind_line : Code → ℕ → List ImageFrame → List ImageFrame
behind_line c t (Wraps n args lines x ∷ fs) = at_lines c t n args x fs (behind_head lines)
behind_line c t fs = fs

-- the function on top returns
abbrev pub after_ret : Code → List ImageFrame → ImageThread → ImageThread
after_ret c (Runs a ∷ fs) v = after_leaving (returned_value c.program a) fs v
after_ret c fs v = v

-- the first call that is left has ended
abbrev pub after_end : Outcome → ImageThread → ImageThread
after_end o v =
    record {
      calls = other_calls v.calls;
      ended = v.ended ++ ending o v.calls;
      fuel = first_fuel (other_calls v.calls);
      due = None;
      frames = [];
      shadow = [];
    }

-- a reply that ends nothing
abbrev pub after_reply : Code → ℕ → ImageThread → What → Reply → ImageThread
after_reply c t v (what.Alloca at size) reply =
    with_frames (on_running (λ a. activation_behind (Some (word W64 at)) (with_alloca at size a)) v.frames) v
after_reply c t v (what.Enter (Direct f) args) (Entered n q crosses) = record v { shadow = q ∷ v.shadow; frames = behind_line c t v.frames }
after_reply c t v (what.Enter way args) (Entered n q crosses) = after_entry c t (fits_site c way v.frames n) way args n q crosses v
after_reply c t v (what.Perform n post k env source dest) reply = with_frames (behind_line c t v.frames) v
after_reply c t v (what.Return low high) reply = after_ret c v.frames v
after_reply c t v w (Value x) = past_instruction (Some x) v
after_reply c t v w reply = past_instruction None v

-- the thread takes a reply in
abbrev pub image_absorb : Code → ℕ → ImageThread → Request → Reply → ImageThread
image_absorb c t v r (Ended o) = after_end o v
image_absorb c t v r reply = after_reply c t v r.what reply
