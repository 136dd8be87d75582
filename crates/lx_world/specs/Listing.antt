-- The numbers that pass a test.
use Rattle.std.specs.Prelude.{◌≡◌, ℕ, suc, ◌<◌, ◌≤◌, Bool, true, false, List, [], ◌∷◌}

-- these are, in order, the numbers from `from` on that pass the test
abbrev pub IsListing : (ℕ → Bool) → ℕ → List ℕ → Type 0
IsListing p from [] = (m : ℕ) → from ≤ m → p m ≡ false
IsListing p from (n ∷ ns) = (from ≤ n) × ((m : ℕ) → from ≤ m → m < n → p m ≡ false) × (p n ≡ true) × IsListing p (suc n) ns
