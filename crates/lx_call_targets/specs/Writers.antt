-- What is known of the writers of a slot.
use Rattle.std.specs.Prelude.{◌≡◌, ℕ, Bool, true, false, not, ◌&&◌, nat_lt, Option, Some, None, List, [], ◌∷◌}
use Rattle.lx_caps.specs.declared.Principal.{Principal}
use Rattle.lx_caps.specs.declared.Cap.TheVariants.{Call}
use Rattle.lx_caps.specs.History.{History, holds}
use Rattle.lx_caps.specs.declared.Principal.TheVariants.{Kernel, Shared, Global, Inst}
use Rattle.lx_caps.specs.Names.{Namings, instance_count}
use Rattle.lx_model.specs.declared.request.Outcome.TheVariants.{Refused}
use Rattle.lx_model.specs.declared.request.Refusal.TheVariants as refusal
use Rattle.lx_model.specs.Enter.{writer_refusal}
use Rattle.lx_model.specs.State.{State}
use Rattle.lx_call_targets.specs.declared.writers.SlotWriters.{SlotWriters}
use Rattle.lx_call_targets.specs.declared.writers.SlotWriters.TheVariants.{Nobody, AllHold, Lacks}

-- the principal is one of those that there are: of one of so many modules, and if it is an instance, one that was named
abbrev pub is_known : ℕ → Namings → Principal → Bool
is_known modules names Kernel = false
is_known modules names (Shared m) = nat_lt m modules
is_known modules names (Global m) = nat_lt m modules
is_known modules names (Inst m k) = nat_lt m modules && nat_lt k (instance_count names m)

-- it is one, and does not hold the call
abbrev pub lacks : ℕ → Namings → History → ℕ → Principal → Bool
lacks modules names h a q = is_known modules names q && not (holds h q (Call a))

-- the shared principal of this module, if it is one, holds the call in each history that the store stands for
abbrev pub IsShared : (History → Type 0) → Option ℕ → ℕ → Type 0
IsShared stands home a = (m : ℕ) → home ≡ Some m → (h : History) → stands h → holds h (Shared m) (Call a) ≡ true

-- there is no writer; each of them holds the call; or this is the first that does not
abbrev pub AreTold : State → ℕ → ℕ → List Principal → SlotWriters → Type 0
AreTold s slot a ws Nobody = ws ≡ []
AreTold s slot a ws AllHold = (w : Principal) × (more : List Principal) × (ws ≡ w ∷ more) × (writer_refusal s slot a ws ≡ None)
AreTold s slot a ws (Lacks q) = writer_refusal s slot a ws ≡ Some (Refused (refusal.Writer q a slot))
