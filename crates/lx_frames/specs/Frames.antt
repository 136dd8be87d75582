-- The frames that a runner keeps, and what the definitions see of them.
use Rattle.std.specs.Prelude.{ℕ, suc, ◌+◌, Bool, true, false, Option, Some, None, List, [], ◌∷◌, ◌<◌, ◌≤◌, drop, map, vec_len, vec_capacity, ⊤}
use Rattle.lx_words.specs.Word.{Word}
use Rattle.lx_model.specs.declared.request.Trap.TheVariants.{Unreachable}
use Rattle.lx_model.specs.Thread.{Activation, activation_behind, behind_head}
use Rattle.lx_model.specs.Effect.{Effect, Moves, Traps}
use Rattle.lx_images.specs.Image.{Code, ImageFrame, Runs, Wraps, ImageThread, ImageStep, Marks, frame_step}
use Rattle.lx_image_code.specs.declared.line.Line.{Line}
use Rattle.lx_image_code.specs.declared.line.Line.TheVariants as line
use Rattle.lx_image_code.specs.Wrappers.{first_op, line_of, wrapper_lines}
use Rattle.lx_image_steps.specs.Marks.{plain_step}
use Rattle.lx_image_steps.specs.Standing.{head_of, run_of}
use Rattle.lx_image_steps.specs.declared.activation.Activation.{Activation as Running}
use Rattle.lx_frames.specs.declared.frame.Frame.{Frame as KeptFrame}
use Rattle.lx_frames.specs.declared.frame.Frame.TheVariants as kept

-- a frame, as the definitions have it: of a wrapper the lines from its place on are left
abbrev pub frame_of : Code → KeptFrame → ImageFrame
frame_of c (kept.Runs run) = Runs (run_of c run)
frame_of c (kept.Wraps n args wrapper at x) = Wraps n args (drop at (wrapper_lines c wrapper)) x

-- the frames below the top one, the newest first, and for how many more there is room
pub record Stack : Type 0 where
  pub frames : List KeptFrame
  pub room : ℕ

-- the frames of a thread: without a top one there is none
abbrev pub frames_of : Code → Option KeptFrame → Stack → List ImageFrame
frames_of c None below = []
frames_of c (Some f) below = frame_of c f ∷ map (frame_of c) below.frames

-- the newest frame
abbrev pub newest : List KeptFrame → Option KeptFrame
newest [] = None
newest (f ∷ fs) = Some f

-- the frames but the newest
abbrev pub older : List KeptFrame → List KeptFrame
older [] = []
older (f ∷ fs) = fs

-- how many of these frames run a function
abbrev pub running_in : List KeptFrame → ℕ
running_in [] = 0
running_in (kept.Runs run ∷ fs) = suc (running_in fs)
running_in (kept.Wraps n args wrapper at x ∷ fs) = running_in fs

-- where the stack of the newest function that runs ends
abbrev pub high_in : List KeptFrame → Option ℕ
high_in [] = None
high_in (kept.Runs run ∷ fs) = Some run.high
high_in (kept.Wraps n args wrapper at x ∷ fs) = high_in fs

-- and with a frame on top
abbrev pub high_on : Option KeptFrame → Stack → Option ℕ
high_on None below = None
high_on (Some f) below = high_in (f ∷ below.frames)

-- a running function, changed; a wrapper stays as it is
abbrev pub changed : (Activation → Activation) → ImageFrame → ImageFrame
changed change (Runs a) = Runs (change a)
changed change (Wraps n args lines x) = Wraps n args lines x

-- the frame behind the one that it called: a function goes on with the value, and a wrapper with what its call gave
abbrev pub resumed : Option Word → ImageFrame → ImageFrame
resumed x (Runs a) = Runs (activation_behind x a)
resumed x (Wraps n args lines old) = Wraps n args lines x

-- the function that runs; none, in a wrapper
abbrev pub runs : KeptFrame → Option Running
runs (kept.Runs run) = Some run
runs (kept.Wraps n args wrapper at x) = None

-- the number of the function that a wrapper wraps
abbrev pub wrapped_function : KeptFrame → ℕ
wrapped_function (kept.Runs run) = 0
wrapped_function (kept.Wraps n args wrapper at x) = n

-- the arguments that it was called with
abbrev pub wrapped_args : KeptFrame → List Word
wrapped_args (kept.Runs run) = []
wrapped_args (kept.Wraps n args wrapper at x) = args

-- and what its call gave
abbrev pub wrapped_value : KeptFrame → Option Word
wrapped_value (kept.Runs run) = None
wrapped_value (kept.Wraps n args wrapper at x) = x

-- a function that runs has room for bytes of the stack more
abbrev pub HasSpace : KeptFrame → Type 0
HasSpace (kept.Runs run) = vec_len run.allocas < vec_capacity run.allocas
HasSpace (kept.Wraps n args wrapper at x) = ⊤

-- and a frame on top, if there is one
abbrev pub HasSpaceOn : Option KeptFrame → Type 0
HasSpaceOn None = ⊤
HasSpaceOn (Some f) = HasSpace f

-- what a jump comes to: the function goes on from its block, or there is no such block
abbrev pub arrival_in : Bool → ImageFrame → Effect
arrival_in true (Runs a) = Moves a
arrival_in _ f = Traps Unreachable

-- the step of the frame on top, where a function may stand behind guards and checks that have left these marks
abbrev pub marked_frame_step : Code → Option Marks → ImageThread → List ImageFrame → ImageStep
marked_frame_step c None v fs = frame_step c v fs
marked_frame_step c (Some m) v (Runs a ∷ fs) = plain_step c v fs m a (head_of a.code)
marked_frame_step c (Some m) v fs = frame_step c v fs

-- lines of wrappers

-- a number of the machine counts the line behind this one
abbrev pub Counts : KeptFrame → Type 0
Counts (kept.Runs run) = ⊤
Counts (kept.Wraps n args wrapper at x) = at < 18446744073709551615

-- none does: the line is the last that is counted
abbrev pub IsUncounted : KeptFrame → Type 0
IsUncounted (kept.Runs run) = ⊥
IsUncounted (kept.Wraps n args wrapper at x) = 18446744073709551615 ≤ at

-- and so it is of a wrapper on top
abbrev pub CountsOn : Option KeptFrame → Type 0
CountsOn None = ⊤
CountsOn (Some f) = Counts f

abbrev pub IsUncountedOn : Option KeptFrame → Type 0
IsUncountedOn None = ⊥
IsUncountedOn (Some f) = IsUncounted f

-- a wrapper behind its line
abbrev pub past_line : KeptFrame → KeptFrame
past_line (kept.Runs run) = kept.Runs run
past_line (kept.Wraps n args wrapper at x) = kept.Wraps n args wrapper (at + 1) x

-- and a wrapper on top
abbrev pub past_line_on : Option KeptFrame → Option KeptFrame
past_line_on None = None
past_line_on (Some f) = Some (past_line f)

-- the line at which a wrapper stands; none, in a function
abbrev pub line_at : ImageFrame → Option Line
line_at (Runs a) = None
line_at (Wraps n args lines x) = Some (line_of (first_op lines))

-- and the line behind it
abbrev pub line_behind : ImageFrame → Option Line
line_behind (Runs a) = None
line_behind (Wraps n args lines x) = Some (line_of (first_op (behind_head lines)))

-- the line of the wrapper on top; none, where a function or nothing is there
abbrev pub line_on : List ImageFrame → Option Line
line_on [] = None
line_on (f ∷ fs) = line_at f

-- and the line behind it
abbrev pub line_behind_on : List ImageFrame → Option Line
line_behind_on [] = None
line_behind_on (f ∷ fs) = line_behind f

-- the line is the call
abbrev pub is_call : Line → Bool
is_call line.Call = true
is_call l = false

-- and there is one
abbrev pub is_call_if : Option Line → Bool
is_call_if None = false
is_call_if (Some l) = is_call l

-- what stands on top

-- the function that runs there; none, where a wrapper or nothing does
abbrev pub running_on : Option KeptFrame → Option Running
running_on None = None
running_on (Some f) = runs f

-- what the call of a wrapper there gave
abbrev pub value_on : Option KeptFrame → Option Word
value_on None = None
value_on (Some f) = wrapped_value f

-- the number of the function that a wrapper there wraps
abbrev pub function_on : Option KeptFrame → ℕ
function_on None = 0
function_on (Some f) = wrapped_function f

-- the arguments that it was called with
abbrev pub args_on : Option KeptFrame → List Word
args_on None = []
args_on (Some f) = wrapped_args f

-- no wrapper stands on top
abbrev pub IsUnwrapped : Option KeptFrame → Type 0
IsUnwrapped (Some (kept.Wraps n args wrapper at x)) = ⊥
IsUnwrapped _ = ⊤

-- a wrapper stands on top
abbrev pub IsWrapper : Option KeptFrame → Type 0
IsWrapper (Some (kept.Wraps n args wrapper at x)) = ⊤
IsWrapper _ = ⊥
