-- A further name for an instance, and why it is not given.
use Rattle.std.specs.Prelude.{ℕ, nat_eq, Option, Some, None, Result, Ok, Err, ◌∷◌, is_some, option_map, if◌then◌else◌}
use Rattle.lx_caps.specs.declared.Principal.{Principal}
use Rattle.lx_caps.specs.declared.Principal.TheVariants.{Kernel, Shared, Global, Inst}
use Rattle.lx_caps.specs.Names.{Namings, named}
use Rattle.lx_principals.specs.declared.fault.AliasFault.{AliasFault}
use Rattle.lx_principals.specs.declared.fault.AliasFault.TheVariants.{NotCurrent, NameTaken, Memory}

-- the instance of a module with this number, where it is the caller itself
abbrev pub itself : ℕ → ℕ → Option ℕ → Option (ℕ × ℕ)
itself m own None = None
itself m own (Some k) = if nat_eq own k then Some (m, k) else None

-- the caller's module and the number of its instance with this name, where the caller is that instance or the
-- module's global principal
abbrev pub current : Namings → Principal → ℕ → Option (ℕ × ℕ)
current names Kernel v = None
current names (Shared m) v = None
current names (Global m) v = option_map (λ k. (m, k)) (named names m v)
current names (Inst m own) v = itself m own (named names m v)

abbrev pub fault_of : Namings → Option (ℕ × ℕ) → ℕ → ℕ → Option AliasFault
fault_of names None known further = Some (NotCurrent known)
fault_of names (Some i) known further = if is_some (named names i.0 further) then Some (NameTaken further) else None

-- why the instance of a known name is not given a further one, if it is not
abbrev pub alias_fault : Namings → Principal → ℕ → ℕ → Option AliasFault
alias_fault names who known further = fault_of names (current names who known) known further

abbrev pub with_further : Namings → Option (ℕ × ℕ) → ℕ → Namings
with_further names None v = names
with_further names (Some i) v = record { «module» = i.0; value = v; instance = i.1 } ∷ names

-- the names, one more of which is the known one's instance's
abbrev pub with_alias : Namings → Principal → ℕ → ℕ → Namings
with_alias names who known further = with_further names (current names who known) further

-- the fault that an answer tells: Ok and want of memory tell none
abbrev pub fault_told : {T : Type 0} → Result T AliasFault → Option AliasFault
fault_told (Ok x) = None
fault_told (Err (NotCurrent known)) = Some (NotCurrent known)
fault_told (Err (NameTaken further)) = Some (NameTaken further)
fault_told (Err Memory) = None
