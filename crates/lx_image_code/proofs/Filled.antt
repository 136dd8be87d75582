-- Tables that loops fill.
use Rattle.std.proofs.Common.{◌≡◌, subst, ℕ, zero, suc, Some, List, [], ◌∷◌, ◌++◌, length, slice_get}
use Rattle.std.proofs.lemmas.Option.{same_Some}

-- what holds of each element, by its place
abbrev pub Each : {A : Type 0} → (ℕ → A → Type 0) → List A → Type 0
Each {A} P xs = (k : ℕ) → (x : A) → slice_get xs k ≡ Some x → P k x

-- an element more, at the end
pub each_more : {A : Type 0} (P : ℕ → A → Type 0) (xs : List A) (x : A) → Each P xs → P (length xs) x → Each P (xs ++ x ∷ [])
each_more P [] x each last zero y at = subst (P zero) (same_Some x y at) last
each_more P [] x each last (suc k) y at = absurd (cc)
each_more P (z ∷ xs) x each last zero y at = each zero y at
each_more P (z ∷ xs) x each last (suc k) y at = each_more (λ n. P (suc n)) xs x (λ n. each (suc n)) last k y at
