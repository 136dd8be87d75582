-- The function that a call by an address or through a slot enters.
use Rattle.std.specs.Prelude.{◌≡◌, ℕ, ◌||◌, Option, Some, None, Result, Ok, Err, List}
use Rattle.lx_words.specs.Word.{Word}
use Rattle.lx_caps.specs.declared.Principal.{Principal}
use Rattle.lx_caps.specs.declared.Cap.TheVariants.{Call}
use Rattle.lx_caps.specs.Regions.{mapped}
use Rattle.lx_caps.specs.History.{holds}
use Rattle.lx_caps.specs.Memory.{number_at}
use Rattle.lx_model.specs.declared.program.Program.{Program}
use Rattle.lx_model.specs.declared.request.Outcome.{Outcome}
use Rattle.lx_model.specs.declared.request.Outcome.TheVariants.{Refused, Trapped}
use Rattle.lx_model.specs.declared.request.Refusal.TheVariants as refusal
use Rattle.lx_model.specs.declared.request.Trap.TheVariants.{Signature}
use Rattle.lx_model.specs.declared.request.Way.{Way}
use Rattle.lx_model.specs.Act.{or_else, unless, unmapped}
use Rattle.lx_model.specs.Enter.{by_writers, fits_params, has_signature, nobody, not_annotated, same_annotation, slot_writers, text_of_principal}
use Rattle.lx_model.specs.Program.{Home, function_at, is_annotated, is_in}
use Rattle.lx_model.specs.State.{State}
use Rattle.lx_serve.specs.declared.halt.Halt.{Halt}
use Rattle.lx_serve.specs.declared.halt.Halt.TheVariants.{Ended, Memory}

-- the function was found, and nothing was decided against it; or the outcome is what was decided; memory is never wanted
abbrev pub Finds : Option ℕ → Option Outcome → Result ℕ Halt → Type 0
Finds found decided (Ok n) = (found ≡ Some n) × (decided ≡ None)
Finds found decided (Err (Ended o)) = decided ≡ Some o
Finds found decided (Err Memory) = ⊥

-- a function may be entered from a text that is of the text, or annotated
abbrev pub unless_known : Program → Home → Principal → ℕ → Option ℕ → Option Outcome
unless_known p home who a None = Some (not_annotated who a)
unless_known p home who a (Some n) = unless (is_in p home n || is_annotated p n) (not_annotated who a)

abbrev pub unless_passed : Program → ℕ → List Word → Option ℕ → Option Outcome
unless_passed p a args None = None
unless_passed p a args (Some n) = unless (fits_params p args n) (Trapped (Signature a))

-- what a call by an address comes to that is held, before it is known as whom the function runs
abbrev pub unless_target : Program → Principal → ℕ → List Word → Option ℕ → Option Outcome
unless_target p who a args found = or_else (unless_known p (text_of_principal who) who a found) (unless_passed p a args found)

-- what a call by an address comes to, likewise
abbrev pub unless_called : Program → State → Principal → ℕ → List Word → Option Outcome
unless_called p s who a args =
    or_else (unless (holds s.history who (Call a)) (Refused (refusal.Call who a))) (unless_target p who a args (function_at p a))

-- a slot type's function has its annotation
abbrev pub unless_same : Program → Principal → ℕ → ℕ → ℕ → Option Outcome
unless_same p who a ty n = unless (same_annotation p ty n) (Refused (refusal.OtherAnnotation who a ty n))

-- a slot type's function has its signature
abbrev pub unless_fitting : Program → ℕ → ℕ → Option ℕ → Option Outcome
unless_fitting p ty a None = None
unless_fitting p ty a (Some n) = unless (has_signature p ty n) (Trapped (Signature a))

-- what a call through a slot that holds the address comes to, before it is known as whom the function runs
abbrev pub unless_allowed : Program → State → Principal → ℕ → ℕ → ℕ → Option Outcome
unless_allowed p s who slot ty a =
    or_else (by_writers p s who slot ty a (function_at p a) (slot_writers p s slot)) (unless_fitting p ty a (function_at p a))

-- what a call through a slot comes to, likewise
abbrev pub unless_slot : Program → State → Principal → ℕ → ℕ → Option Outcome
unless_slot p s who slot ty = or_else (unless (mapped slot 8) (unmapped slot)) (unless_allowed p s who slot ty (number_at s.memory slot 8))

-- the principal's expression is not mapped, where there is a function
abbrev pub nobody_at : Program → State → Principal → Way → List Word → Option ℕ → Option Outcome
nobody_at p s who way args None = None
nobody_at p s who way args (Some n) = nobody p s who way n args
