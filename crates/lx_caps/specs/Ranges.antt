-- The ranges of bytes that a principal owns.
use Rattle.std.specs.Prelude.{◌≡◌, ℕ, ◌+◌, ◌<◌, ◌≤◌, Bool, true, false, List, [], ◌∷◌}
use Rattle.lx_caps.specs.declared.Principal.{Principal}
use Rattle.lx_caps.specs.declared.Cap.{Cap}
use Rattle.lx_caps.specs.declared.Cap.TheVariants as cap
use Rattle.lx_caps.specs.declared.Atom.TheVariants.{Byte}
use Rattle.lx_caps.specs.History.{History, owns}

-- these are, in order, the greatest ranges of numbers from `from` on that pass the test: before a range none does,
-- in it each does, and the number behind it does not
abbrev pub IsRanges : (ℕ → Bool) → ℕ → List Cap → Type 0
IsRanges p from [] = (m : ℕ) → from ≤ m → p m ≡ false
IsRanges p from (cap.Write at size ∷ more) =
    (from ≤ at) × ((m : ℕ) → from ≤ m → m < at → p m ≡ false) × (0 < size) × ((m : ℕ) → at ≤ m → m < at + size → p m ≡ true) × (p (at + size) ≡ false) × IsRanges p (at + size) more
IsRanges p from (cap.Call at ∷ more) = ⊥
IsRanges p from (cap.Ref ty at ∷ more) = ⊥

-- these are, in order, the greatest ranges of bytes that the principal owns
abbrev pub AreByteRanges : History → Principal → List Cap → Type 0
AreByteRanges h who cs = IsRanges (λ b. owns h who (Byte b)) 0 cs
