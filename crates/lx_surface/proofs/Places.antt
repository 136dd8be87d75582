-- Where something stands in a list.
use Rattle.std.proofs.Common.{◌≡◌, ℕ, zero, suc, ◌<◌, ◌≤◌, Bool, true, false, Option, Some, None, inl, inr, List, [], ◌∷◌, ◌++◌, length, slice_get, refl, sym, ap, subst, ◌∙◌, arith}
use Rattle.std.specs.Prelude.{◌&&◌, nat_eq}
use Rattle.std.proofs.lemmas.Bool.{and_from, and_parts, eq-eqb, eqb-true, or_cases, or_left, or_right}
use Rattle.lx_surface.specs.Pairs.{Pair, has_pair, is_pair}
use Rattle.lx_surface.specs.Waits.{has_number}
use Rattle.lx_surface.specs.Work.{IsLonger}

-- pairs

pub itself : (m n : ℕ) → is_pair m n (m, n) ≡ true
itself m n = and_from (nat_eq m m) (nat_eq n n) (eq-eqb m m refl) (eq-eqb n n refl)

pub stands : (xs : List Pair) (j m n : ℕ) → slice_get xs j ≡ Some (m, n) → has_pair xs m n ≡ true
stands [] j m n at = absurd (cc)
stands (y ∷ ys) zero m n at = or_left (is_pair m n y) (has_pair ys m n) (subst (λ z. is_pair m n z ≡ true) (sym (same at)) (itself m n)) where
  same : Some y ≡ Some (m, n) → y ≡ (m, n)
  same e = cc
stands (y ∷ ys) (suc j) m n at = or_right (is_pair m n y) (has_pair ys m n) (stands ys j m n at)

is_this : (m n : ℕ) (y : Pair) → is_pair m n y ≡ true → y ≡ (m, n)
is_this m n y is = let both = and_parts (nat_eq m y.0) (nat_eq n y.1) is in by (sym (eqb-true m y.0 both.0)) (sym (eqb-true n y.1 both.1)) where
  by : y.0 ≡ m → y.1 ≡ n → y ≡ (m, n)
  by a b = λ k. (a k, b k)

pub place_of : (xs : List Pair) (m n : ℕ) → has_pair xs m n ≡ true → (j : ℕ) × (slice_get xs j ≡ Some (m, n))
place_of [] m n is = absurd (cc)
place_of (y ∷ ys) m n is = elim (or_cases (is_pair m n y) (has_pair ys m n) is) [
  | inl here ↦ (0, ap Some (is_this m n y here))
  | inr there ↦ (let next = place_of ys m n there in (suc next.0, next.1))
]

-- numbers

pub number_place : (xs : List ℕ) (m : ℕ) → has_number xs m ≡ true → (j : ℕ) × (slice_get xs j ≡ Some m)
number_place [] m is = absurd (cc)
number_place (y ∷ ys) m is = elim (or_cases (nat_eq m y) (has_number ys m) is) [
  | inl here ↦ (0, ap Some (sym (eqb-true m y here)))
  | inr there ↦ (let next = number_place ys m there in (suc next.0, next.1))
]

-- longer lists

no_less : (xs more : List Pair) → length xs ≤ length (xs ++ more)
no_less [] more = omega arith
no_less (x ∷ xs) more = let h = no_less xs more in omega (arith, h)

pub longer_length : (xs ys : List Pair) → IsLonger xs ys → length xs ≤ length ys
longer_length xs ys longer = subst (λ l. length xs ≤ length l) (sym longer.1) (no_less xs longer.0)

earlier_in : (xs more : List Pair) (n : ℕ) → n < length xs → slice_get (xs ++ more) n ≡ slice_get xs n
earlier_in [] more n less = absurd (omega (arith, less))
earlier_in (x ∷ xs) more zero less = refl
earlier_in (x ∷ xs) more (suc n) less = earlier_in xs more n (by less) where
  by : suc n < suc (length xs) → n < length xs
  by h = omega (arith, h)

-- what stood in a list stands at its place in the longer one
pub earlier : (xs ys : List Pair) (n : ℕ) → IsLonger xs ys → n < length xs → slice_get ys n ≡ slice_get xs n
earlier xs ys n longer less = ap (λ l. slice_get l n) longer.1 ∙ earlier_in xs longer.0 n less

pub within : {X : Type 0} (xs : List X) (n : ℕ) (x : X) → slice_get xs n ≡ Some x → n < length xs
within [] n x at = absurd (cc)
within (y ∷ ys) zero x at = omega arith
within (y ∷ ys) (suc n) x at = let h = within ys n x at in omega (arith, h)

-- all that stands in a list stands before a place where there is nothing
pub past : {X : Type 0} (xs : List X) (place n : ℕ) (x : X) → slice_get xs place ≡ None → slice_get xs n ≡ Some x → n < place
past [] place n x none at = absurd (cc)
past (y ∷ ys) zero n x none at = absurd (cc)
past (y ∷ ys) (suc place) zero x none at = omega arith
past (y ∷ ys) (suc place) (suc n) x none at = let less = past ys place n x none at in omega (arith, less)

-- and the place is the length, if it is no further
pub at_end : {X : Type 0} (xs : List X) (place : ℕ) → slice_get xs place ≡ None → place ≤ length xs → place ≡ length xs
at_end [] place none most = omega (arith, most)
at_end (y ∷ ys) zero none most = absurd (cc)
at_end (y ∷ ys) (suc place) none most = ap suc (at_end ys place none (by most)) where
  by : suc place ≤ suc (length ys) → place ≤ length ys
  by h = omega (arith, h)

abbrev found : ℕ → ℕ → Option Pair
found m f = Some (m, f)

abbrev or_none : Option Pair → Pair
or_none None = (0, 0)
or_none (Some y) = y

pub first_is : (m f n g : ℕ) → found m f ≡ found n g → m ≡ n
first_is m f n g e = ap (λ o. (or_none o).0) e

pub second_is : (m f n g : ℕ) → found m f ≡ found n g → f ≡ g
second_is m f n g e = ap (λ o. (or_none o).1) e
