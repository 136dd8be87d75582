-- What it means to perform an action.
use Rattle.std.specs.Prelude.{◌≡◌, Bool, true, false, Result, Ok, Err}
use Rattle.lx_caps.specs.History.{History}
use Rattle.lx_model.specs.declared.request.Outcome.TheVariants as outcome
use Rattle.lx_model.specs.declared.request.Trap.TheVariants as trap
use Rattle.lx_model.specs.Act.{Acted}
use Rattle.lx_actions.specs.declared.fault.ActFault.{ActFault}
use Rattle.lx_actions.specs.declared.fault.ActFault.TheVariants.{Refused, Unmapped, Memory}

-- the action is not refused
abbrev pub IsDone : Acted → Type 0
IsDone acted = (g : History) × (acted ≡ Ok g)

-- The answer is what the action gives, and the store stands for the history that it leaves. Behind an error, want of
-- memory too, the store stands for the history as it was; and want of memory is told only where nothing is refused.
abbrev pub Performs : {C T : Type 0} → (C → History → Type 0) → C → History → Acted → Result T ActFault → Type 0
Performs stands caps h acted (Ok x) = (g : History) × (acted ≡ Ok g) × stands caps g
Performs stands caps h acted (Err (Refused why)) = (acted ≡ Err (outcome.Refused why)) × stands caps h
Performs stands caps h acted (Err (Unmapped at)) = (acted ≡ Err (outcome.Trapped (trap.Unmapped at))) × stands caps h
Performs stands caps h acted (Err Memory) = IsDone acted × stands caps h

-- want of memory is told
abbrev pub lacks_memory : {T : Type 0} → Result T ActFault → Bool
lacks_memory (Err Memory) = true
lacks_memory _ = false
