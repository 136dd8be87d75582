-- A call of a native that is tried.
use Rattle.std.specs.Prelude.{◌≡◌, ℕ, Some, None, Result, Ok, Err, List}
use Rattle.lx_words.specs.Word.{Word}
use Rattle.lx_caps.specs.History.{History}
use Rattle.lx_caps.specs.declared.Principal.{Principal}
use Rattle.lx_model.specs.declared.program.Program.{Program}
use Rattle.lx_model.specs.declared.request.Reply.{Reply}
use Rattle.lx_model.specs.Program.{NativeCall}
use Rattle.lx_model.specs.State.{State}
use Rattle.lx_model.specs.Decide.{decide_native}
use Rattle.lx_model.specs.Serve.{after_native}
use Rattle.lx_serve.specs.Stands.{Keeps, Gives}
use Rattle.lx_serve.specs.declared.halt.Halt.{Halt}
use Rattle.lx_serve.specs.declared.halt.Halt.TheVariants.{Ended, Memory}
use Rattle.lx_serve.specs.declared.monitor.Monitor.{Monitor}

-- as any request is tried
abbrev pub TriesNative : {C : Type 0} → (C → History → Type 0) → Program → Monitor C → State → ℕ → Principal → NativeCall → List Word → Result Reply Halt → Type 0
TriesNative stands p m s t by native args (Ok answer) = (decide_native s by native args ≡ None) × Gives stands p m answer (after_native s t by native args)
TriesNative stands p m s t by native args (Err (Ended o)) = (decide_native s by native args ≡ Some o) × Keeps stands p m s
TriesNative stands p m s t by native args (Err Memory) = (decide_native s by native args ≡ None) × Keeps stands p m s
