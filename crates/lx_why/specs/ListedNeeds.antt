-- Needs as they are listed.
use Rattle.std.specs.Prelude.{◌≡◌, ℕ, zero, suc, false, All, List, [], ◌∷◌, map, filter, if◌then◌else◌}
use Rattle.lx_caps.specs.declared.Principal.{Principal}
use Rattle.lx_caps.specs.declared.Cap.TheVariants.{Write, Call}
use Rattle.lx_caps.specs.Memory.{number_at}
use Rattle.lx_caps.specs.Regions.{mapped}
use Rattle.lx_certificates.specs.declared.Need.{Need}
use Rattle.lx_certificates.specs.Certificates.{is_kernel}
use Rattle.lx_model.specs.declared.program.Program.{Program}
use Rattle.lx_model.specs.Authority.{is_module}
use Rattle.lx_model.specs.Enter.{slot_writers}
use Rattle.lx_model.specs.State.{State}
use Rattle.lx_run_laws.specs.Needs.{to_hold}

-- those of the needs that are of modules
abbrev pub of_modules : List Need → List Need
of_modules ns = filter (λ n. is_module n.who) ns

-- none of the needs is of the kernel
abbrev pub AreOfModules : List Need → Type 0
AreOfModules ns = All (λ (n : Need). is_kernel n.who ≡ false) ns

-- what a block write needs: its bytes, and nothing where it has none
abbrev pub block_needs : Principal → ℕ → ℕ → List Need
block_needs who at zero = []
block_needs who at (suc n) = to_hold who (Write at (suc n)) ∷ []

-- what a call through a slot in memory needs: the call by each of the slot's writers
abbrev pub writer_needs : Program → State → ℕ → List Need
writer_needs p s slot = map (λ w. to_hold w (Call (number_at s.memory slot 8))) (slot_writers p s slot)

-- what a call through a slot needs
abbrev pub slot_needs : Program → State → ℕ → List Need
slot_needs p s slot = if mapped slot 8 then writer_needs p s slot else []
