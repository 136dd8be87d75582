-- Every event that is not refused is the uninstrumented program's step.
use Rattle.std.specs.Prelude.{◌≡◌, ℕ, Bool, true, false, Some, None, slice_get, ⊤}
use Rattle.lx_caps.specs.declared.Principal.{Principal}
use Rattle.lx_caps.specs.declared.Cap.TheVariants.{Write}
use Rattle.lx_caps.specs.Regions.{mapped}
use Rattle.lx_caps.specs.History.{History, holds}
use Rattle.lx_model.specs.declared.program.Program.{Program}
use Rattle.lx_model.specs.declared.request.Outcome.{Outcome}
use Rattle.lx_model.specs.declared.request.Outcome.TheVariants.{Returned, Refused, Trapped, Budget}
use Rattle.lx_model.specs.declared.request.Reply.{Reply}
use Rattle.lx_model.specs.declared.request.Reply.TheVariants.{Value, Done, Entered, Ended}
use Rattle.lx_model.specs.declared.request.Way.{Way}
use Rattle.lx_model.specs.declared.request.Way.TheVariants.{Direct}
use Rattle.lx_model.specs.declared.request.What.{What}
use Rattle.lx_model.specs.declared.request.What.TheVariants.{Enter}
use Rattle.lx_model.specs.Program.{is_in}
use Rattle.lx_model.specs.Thread.{Thread}
use Rattle.lx_model.specs.Next.{next}
use Rattle.lx_model.specs.Authority.{is_module}
use Rattle.lx_model.specs.Serve.{serve}
use Rattle.lx_model.specs.World.{World, event}
use Rattle.lx_model.specs.Plain.{plain_event, forget_world}

abbrev pub is_refused : Outcome → Bool
is_refused (Refused r) = true
is_refused (Returned v) = false
is_refused (Trapped t) = false
is_refused Budget = false

-- the reply refuses the act
abbrev pub is_refusal : Reply → Bool
is_refusal (Ended o) = is_refused o
is_refusal (Value v) = false
is_refusal Done = false
is_refusal (Entered n q c) = false

-- what a module's principal holds lies in memory
abbrev pub HoldsInMemory : History → Type 0
HoldsInMemory h = (who : Principal) (at size : ℕ) → is_module who ≡ true → holds h who (Write at size) ≡ true → mapped at size ≡ true

-- a function that is called by its name is one of the kernel
abbrev pub NamesKernelBy : Program → Way → Type 0
NamesKernelBy p (Direct n) = is_in p None n ≡ true
NamesKernelBy p _ = ⊤

abbrev pub NamesKernel : Program → What → Type 0
NamesKernel p (Enter way args) = NamesKernelBy p way
NamesKernel p _ = ⊤

pub record PlainLaws : Type 0 where
  -- an event whose reply is no refusal changes memory, heap, notes and threads as the plain programs' step does, where
  -- what modules hold lies in memory and the functions that are called by their names are the kernel's
  pub plain : (p : Program) (t : ℕ) (w : World) (thread : Thread) → slice_get w.threads t ≡ Some thread → HoldsInMemory w.state.history → NamesKernel p (next p t thread).request.what → is_refusal (serve p w.state t (next p t thread).request).reply ≡ false → plain_event p t (forget_world w) ≡ forget_world (event p t w)
