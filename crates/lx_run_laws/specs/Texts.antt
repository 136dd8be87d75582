-- As whom functions run, and as whom they ask.
use Rattle.std.specs.Prelude.{◌≡◌, ◌↔◌, ℕ, Bool, true, false, Option, Some, None, List, [], ◌∷◌, slice_get, ⊤}
use Rattle.lx_caps.specs.declared.Principal.{Principal}
use Rattle.lx_caps.specs.declared.Principal.TheVariants.{Kernel}
use Rattle.lx_caps.specs.History.{is_of}
use Rattle.lx_model.specs.declared.program.Program.{Program}
use Rattle.lx_model.specs.declared.request.Request.{Request}
use Rattle.lx_model.specs.declared.request.What.{What}
use Rattle.lx_model.specs.declared.request.What.TheVariants as what
use Rattle.lx_model.specs.Enter.{text_of_principal}
use Rattle.lx_model.specs.Next.{next}
use Rattle.lx_model.specs.Program.{home_or_kernel}
use Rattle.lx_model.specs.Thread.{Crossing, Frame, Thread, has_work}
use Rattle.lx_model.specs.World.{World}
use Rattle.lx_run_laws.specs.Authorised.{is_act}

-- the principal of the top frame; the kernel's, where there is none
abbrev pub top_principal : List Frame → Principal
top_principal [] = Kernel
top_principal (f ∷ fs) = f.principal

-- the principal of the frame below it
abbrev pub caller_principal : List Frame → Principal
caller_principal [] = Kernel
caller_principal (f ∷ fs) = top_principal fs

-- the source of a crossing is this principal
abbrev pub IsCalledBy : Principal → Option Crossing → Type 0
IsCalledBy q None = ⊤
IsCalledBy q (Some c) = c.source ≡ q

-- a function runs as a principal of its own text, and a crossing's source is the principal of the frame below
pub record RunsAsText (p : Program) (f : Frame) (below : List Frame) : Type 0 where
  pub text : text_of_principal f.principal ≡ home_or_kernel p f.run.function
  pub source : IsCalledBy (top_principal below) f.crossing

-- each frame does
abbrev pub RunAsTexts : Program → List Frame → Type 0
RunAsTexts p [] = ⊤
RunAsTexts p (f ∷ fs) = RunsAsText p f fs × RunAsTexts p fs

-- each frame of each thread does
abbrev pub AllRunAsTexts : Program → World → Type 0
AllRunAsTexts p w = (t : ℕ) (x : Thread) → slice_get w.threads t ≡ Some x → RunAsTexts p x.frames

-- an action before the body is asked for by the caller, and one behind it by the function that ran
abbrev pub action_asker : Bool → List Frame → Principal
action_asker true frames = top_principal frames
action_asker false frames = caller_principal frames

-- in whose name a thread asks: a call ends in the kernel's, and all but actions is asked for in that of the top frame
abbrev pub asker : List Frame → What → Principal
asker frames (what.Finish o) = Kernel
asker frames (what.Perform n post k env source dest) = action_asker post frames
asker frames _ = top_principal frames

-- from whom an action before or behind the body takes, and to whom it gives
abbrev pub GoesBetween : Bool → List Frame → Principal → Principal → Type 0
GoesBetween false frames source dest = (source ≡ caller_principal frames) × (dest ≡ top_principal frames)
GoesBetween true frames source dest = (source ≡ top_principal frames) × (dest ≡ caller_principal frames)

-- an action goes from the caller to the function that is entered, or back
abbrev pub IsBetween : List Frame → What → Type 0
IsBetween frames (what.Perform n post k env source dest) = GoesBetween post frames source dest
IsBetween frames _ = ⊤

-- the function's text is the kernel's exactly where this is the kernel, and a module's exactly where this is of the module
pub record IsOfText (p : Program) (f : Frame) (who : Principal) : Type 0 where
  pub kernel : (home_or_kernel p f.run.function ≡ None) ↔ (who ≡ Kernel)
  pub of_module : (m : ℕ) → (home_or_kernel p f.run.function ≡ Some m) ↔ (is_of m who ≡ true)

-- there is a top frame, and it is of that text
abbrev pub IsTextOnTop : Program → Principal → List Frame → Type 0
IsTextOnTop p who [] = ⊥
IsTextOnTop p who (f ∷ fs) = IsOfText p f who

-- a request of a thread with these frames
pub record IsAskedByText (p : Program) (frames : List Frame) (r : Request) : Type 0 where
  pub who : r.who ≡ asker frames r.what
  pub between : IsBetween frames r.what
  -- writes, and calls by an address or through a slot, are asked for as the text that does them
  pub act : is_act r.what ≡ true → IsTextOnTop p r.who frames

-- what the thread asks next, with the frames that it then has
abbrev pub AsksByText : Program → ℕ → World → Type 0
AsksByText p t w =
    (x : Thread) → slice_get w.threads t ≡ Some x → has_work x ≡ true
    → RunAsTexts p (next p t x).thread.frames × IsAskedByText p (next p t x).thread.frames (next p t x).request
