-- The machine of images line by line: each guard, each check and each free line of a wrapper is a step of its own.
use Rattle.std.specs.Prelude.{◌≡◌, ℕ, zero, suc, Bool, true, false, Option, Some, None, List, [], ◌∷◌, ⊤}
use Rattle.lx_words.specs.Word.{Word}
use Rattle.lx_ir.specs.declared.types.Scalar.{Scalar}
use Rattle.lx_ir.specs.declared.module.Symbol.{Symbol}
use Rattle.lx_ir.specs.declared.instr.Argument.{Argument}
use Rattle.lx_ir.specs.declared.instr.Callee.{Callee}
use Rattle.lx_ir.specs.declared.instr.Op.{Op}
use Rattle.lx_ir.specs.declared.instr.Op.TheVariants as op
use Rattle.lx_model.specs.declared.request.Outcome.{Outcome}
use Rattle.lx_model.specs.declared.request.Outcome.TheVariants.{Trapped}
use Rattle.lx_model.specs.declared.request.Trap.TheVariants.{Unreachable}
use Rattle.lx_model.specs.declared.request.Way.TheVariants.{Direct}
use Rattle.lx_model.specs.declared.request.What.TheVariants as what
use Rattle.lx_model.specs.declared.request.Request.{Request}
use Rattle.lx_model.specs.Program.{home_or_kernel}
use Rattle.lx_model.specs.Thread.{Activation, start_of, activation_behind}
use Rattle.lx_model.specs.Effect.{effect, text_of, bits}
use Rattle.lx_model.specs.Next.{request, finish, has_action}
use Rattle.lx_images.specs.Image.{Code, ImageFrame, Runs, Wraps, ImageThread, ImageStep, Marks, no_marks, top, tail, below_top, stack_top, image_routine, comes_to, if_paid, if_room, has_room, with_frames, with_shadow, after_leaving, effect_step, wrapped_import, wrapper_args, action_line, start_step, at_lines, image_step}
use Rattle.lx_images.specs.Image.{Goes as ImageGoes, Asks as ImageAsks}
use Rattle.lx_images.specs.Wrappers.{called_lines}

-- a thread with its marks takes a step, or asks
pub data LineStep : Type 0 where
  Goes : Marks → ImageThread → LineStep
  Asks : ImageThread → Request → LineStep

-- a step behind which no mark is set
abbrev pub unmarked : ImageStep → LineStep
unmarked (ImageGoes v) = Goes no_marks v
unmarked (ImageAsks v r) = Asks v r

-- the call of a wrapper adds its frame, before its enter
abbrev pub wrapper_line_call : Bool → ImageThread → List ImageFrame → LineStep
wrapper_line_call true v fs = Goes no_marks (with_frames fs v)
wrapper_line_call false v fs = unmarked (if_room false v (ImageGoes v))

-- an instruction that costs a unit
abbrev pub line_costly : Code → Marks → Activation → List ImageFrame → Op → Option ℕ → ImageThread → LineStep
line_costly c m a fs o (Some n) v =
    wrapper_line_call (has_room (Runs a ∷ fs)) v (Wraps n (wrapper_args c a o) (called_lines c (text_of c.program a) o) None ∷ Runs a ∷ fs)
line_costly c m a fs o None v = unmarked (effect_step c v m a fs (effect c.program a o))

-- a step that costs a unit: without fuel the call comes to its budget's end
abbrev pub line_paid : ImageThread → (ImageThread → LineStep) → LineStep
line_paid v go = elim v.fuel [ zero ↦ unmarked (if_paid v (λ w. ImageGoes w)) | suc n ↦ go (record v { fuel = n }) ]

-- one instruction: a mark is set and costs nothing, any other costs a unit
abbrev pub line_one : Code → ImageThread → Marks → Activation → List ImageFrame → Op → LineStep
line_one c v m a fs (op.Guard at size narrow) =
    Goes (record m { guarded = Some (bits c.program a at, bits c.program a size) }) (with_frames (Runs (activation_behind None a) ∷ fs) v)
line_one c v m a fs (op.Check target) = Goes (record m { checked = Some (bits c.program a target) }) (with_frames (Runs (activation_behind None a) ∷ fs) v)
line_one c v m a fs o = line_paid v (line_costly c m a fs o (wrapped_import c (text_of c.program a) o))

-- the first instruction of the code that is left
abbrev pub line_code : Code → ImageThread → Marks → Activation → List ImageFrame → List Op → LineStep
line_code c v m a fs [] = unmarked (if_paid v (comes_to (Trapped Unreachable)))
line_code c v m a fs (o ∷ os) = line_one c v m a fs o

-- the line at which a wrapper stands: each is a step of its own
abbrev pub line_of_wrapper : Code → ℕ → ImageThread → ℕ → List Word → Option Word → List ImageFrame → List Op → LineStep
line_of_wrapper c t v n args x fs (op.Enter s ∷ lines) = Asks v (request (top v.shadow) (what.Enter (Direct n) args))
line_of_wrapper c t v n args x fs (op.Pre s k ∷ lines) = unmarked (action_line (has_action c.program n false k) v n false k args None (below_top v.shadow) (top v.shadow))
line_of_wrapper c t v n args x fs (op.Call to ret callee as' ∷ lines) =
    Goes no_marks (with_frames (Runs (start_of n (image_routine c n) args (stack_top t fs)) ∷ Wraps n args lines x ∷ fs) v)
line_of_wrapper c t v n args x fs (op.Post s k ∷ lines) = unmarked (action_line (has_action c.program n true k) v n true k args x (top v.shadow) (below_top v.shadow))
line_of_wrapper c t v n args x fs (op.Leave s ∷ lines) = Goes no_marks (with_frames (Wraps n args lines x ∷ fs) (with_shadow (tail v.shadow) v))
line_of_wrapper c t v n args x fs (op.Ret r ∷ lines) = Goes no_marks (after_leaving x fs v)
line_of_wrapper c t v n args x fs lines = unmarked (comes_to (Trapped Unreachable) v)

-- the line of the frame on top
abbrev pub line_frame : Code → ℕ → Marks → ImageThread → List ImageFrame → LineStep
line_frame c t m v [] = unmarked (start_step v.calls v)
line_frame c t m v (Runs a ∷ fs) = line_code c v m a fs a.code
line_frame c t m v (Wraps n args lines x ∷ fs) = line_of_wrapper c t v n args x fs lines

-- an outcome that is due comes first
abbrev pub line_due : Option Outcome → ImageThread → LineStep → LineStep
line_due (Some o) v step = Asks v (finish o)
line_due None v step = step

-- the next line of a thread
abbrev pub line_step : Code → ℕ → Marks → ImageThread → LineStep
line_step c t m v = line_due v.due v (line_frame c t m v v.frames)

-- so many further line steps come to this step of the other machine
abbrev pub LeadsTo : ℕ → Code → ℕ → LineStep → ImageStep → Type 0
LeadsTo n c t (Asks v r) i = i ≡ ImageAsks v r
LeadsTo zero c t (Goes m v) i = (m ≡ no_marks) × (i ≡ ImageGoes v)
LeadsTo (suc n) c t (Goes m v) i = LeadsTo n c t (line_step c t m v) i

-- the lines of a wrapper on top: it stands before no call, which is passed with the line before it, and behind a line that leaves stands the `ret`
abbrev pub AreSettled : List Op → Type 0
AreSettled (op.Enter s ∷ lines) = ⊥
AreSettled (op.Call to ret callee args ∷ lines) = ⊥
AreSettled (op.Leave s ∷ op.Ret v ∷ lines) = ⊤
AreSettled (op.Leave s ∷ lines) = ⊥
AreSettled lines = ⊤

-- so it is of the frame on top, where that is a wrapper
abbrev pub Settled : List ImageFrame → Type 0
Settled [] = ⊤
Settled (Runs a ∷ fs) = ⊤
Settled (Wraps n args lines x ∷ fs) = AreSettled lines

-- each wrapper that is called begins with its enter
abbrev pub EnterFirst : Code → Type 0
EnterFirst c =
    (k : ℕ) (o : Op) (n : ℕ) → wrapped_import c (home_or_kernel c.program k) o ≡ Some n → (s : Symbol) × (lines : List Op) × (called_lines c (home_or_kernel c.program k) o ≡ op.Enter s ∷ lines)

-- the machine of lines does what the other machine does
pub record LineLaws : Type 0 where
  -- a step is some line steps, where each wrapper that is called begins with its enter
  pub lines : (c : Code) (t : ℕ) (v : ImageThread) → EnterFirst c → Settled v.frames → (n : ℕ) × LeadsTo n c t (line_step c t no_marks v) (image_step c v)
  -- a wrapper that has come to its call goes into its body by one line step
  pub calls : (c : Code) (t n : ℕ) (args : List Word) (x : Option Word) (fs : List ImageFrame) (v : ImageThread) (to : Option ℕ) (ret : Option Scalar) (callee : Callee) (as' : List Argument) (lines : List Op) → v.due ≡ None → LeadsTo 0 c t (line_step c t no_marks (with_frames (Wraps n args (op.Call to ret callee as' ∷ lines) x ∷ fs) v)) (ImageGoes (with_frames (at_lines c t n args x fs (op.Call to ret callee as' ∷ lines)) v))
