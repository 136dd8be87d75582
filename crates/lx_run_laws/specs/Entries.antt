-- What stands before a call that entered a function.
use Rattle.std.specs.Prelude.{◌≡◌, ◌≢◌, ℕ, true, ◌||◌, Some, None, List, []}
use Rattle.lx_words.specs.Word.{Word}
use Rattle.lx_caps.specs.declared.Principal.{Principal}
use Rattle.lx_caps.specs.Regions.{mapped}
use Rattle.lx_caps.specs.Memory.{number_at}
use Rattle.lx_model.specs.declared.program.Program.{Program}
use Rattle.lx_model.specs.declared.request.Way.{Way}
use Rattle.lx_model.specs.declared.request.Way.TheVariants.{Script, Direct, Indirect, Slot}
use Rattle.lx_model.specs.Enter.{text_of_principal, fits_params, has_signature, slot_writers, same_annotation}
use Rattle.lx_model.specs.Program.{is_in, is_annotated, function_at}
use Rattle.lx_model.specs.State.{State}

-- a call by an address
pub record IsAddressEntry (p : Program) (who : Principal) (a : ℕ) (args : List Word) (n : ℕ) : Type 0 where
  -- the function that is entered stands at the address
  pub target : function_at p a ≡ Some n
  -- it is of the caller's own text, or annotated
  pub known : (is_in p (text_of_principal who) n || is_annotated p n) ≡ true
  -- its parameters are as wide as the arguments
  pub params : fits_params p args n ≡ true

-- a call through a slot
pub record IsSlotEntry (p : Program) (s : State) (slot ty n : ℕ) : Type 0 where
  -- the slot's eight bytes lie in memory
  pub lies : mapped slot 8 ≡ true
  -- the function that is entered stands at the address that they hold
  pub target : function_at p (number_at s.memory slot 8) ≡ Some n
  -- where the slot has a writer, the function is annotated, and its annotation's text is that of the slot's type
  pub written : slot_writers p s slot ≢ [] → (is_annotated p n ≡ true) × (same_annotation p ty n ≡ true)
  -- where it has none, the function is of the kernel's text, or annotated
  pub clean : slot_writers p s slot ≡ [] → (is_in p None n || is_annotated p n) ≡ true
  -- the function has the signature of the slot's type
  pub signature : has_signature p ty n ≡ true

-- a call by a number enters the function with that number
abbrev pub IsEntry : Program → State → Principal → Way → List Word → ℕ → Type 0
IsEntry p s who (Script m) args n = n ≡ m
IsEntry p s who (Direct m) args n = n ≡ m
IsEntry p s who (Indirect a) args n = IsAddressEntry p who a args n
IsEntry p s who (Slot slot ty) args n = IsSlotEntry p s slot ty n
