-- How the parts of a capability are made, one behind the other.
use Rattle.std.specs.Prelude.{◌≡◌, ℕ, ◌<◌, ◌≤◌, ◌+◌, ◌-◌, true, false, Option, Some, None, List, [], ◌∷◌, ◌++◌}
use Rattle.lx_caps.specs.History.{History, each_byte}
use Rattle.lx_certificates.specs.declared.Part.{Part}
use Rattle.lx_certificates.specs.declared.givers.Sought.{Sought}
use Rattle.lx_certificates.specs.declared.make.Cutting.{Cutting}
use Rattle.lx_certificates.specs.declared.make.Cutting.TheVariants.{Parts, Lack}
use Rattle.lx_certificates.specs.Certificates.{are_parts, is_act, is_wanted}
use Rattle.lx_certificates.specs.Givers.{count_of, first_of, given}

-- the part has the atoms from one place to before another, all that the act gave without a gap
pub record IsRun (h : History) (s : Sought) (from end act : ℕ) : Type 0 where
  pub more : from < end
  pub bound : end ≤ count_of s.cap
  pub by_act : (k : ℕ) → from ≤ k → k < end → given h s k ≡ Some act
  pub other : end < count_of s.cap → is_act (given h s end) act ≡ false

-- one part more, or an atom that nobody gave
abbrev pub IsNextPart : History → Sought → ℕ → List Part → List Part → Option ℕ → Type 0
IsNextPart h s from old new None = (new ≡ old) × (given h s from ≡ None)
IsNextPart h s from old new (Some end) = (act : ℕ) × (new ≡ old ++ record { low = first_of s.cap + from; size = end - from; act = act } ∷ []) × IsRun h s from end act

-- all parts, or the first atom that nobody gave
abbrev pub IsCutting : History → Sought → Cutting → Type 0
IsCutting h s (Parts parts) = are_parts h s parts ≡ true
IsCutting h s (Lack place) = (place < count_of s.cap) × (each_byte (λ k. is_wanted None (given h s k)) 0 place ≡ true) × (given h s place ≡ None)
