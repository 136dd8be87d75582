-- How many places there are, and which are the same.
use Rattle.std.proofs.Common.{◌≡◌, ◌≢◌, ◌⊎◌, inl, inr, refl, ℕ, arith}
use Rattle.std.proofs.lemmas.Bool.{cases_lt}
use Rattle.lx_memory.specs.Runs.{places}

-- it is a word of its own, so that no list of so many numbers is ever looked into
pub places_are : places ≡ 0x10000
unfolding places
places_are = refl

-- whether two numbers are the same
pub cases_at : (x y : ℕ) → (x ≡ y) ⊎ (x ≢ y)
cases_at x y = elim (cases_lt x y) [
  | inl less ↦ inr (omega (arith, less))
  | inr more ↦ elim (cases_lt y x) [
    | inl less ↦ inr (omega (arith, less))
    | inr same ↦ inl (omega (arith, more, same))
  ]
]
