-- First places in lists.
use Rattle.std.proofs.Common.{◌≡◌, ◌∙◌, refl, sym, ap, ℕ, suc, ◌+◌, ◌<◌, Bool, true, false, not, ◌||◌, cond, nat_lt, Option, Some, None, List, [], ◌∷◌, length, arith}
use Rattle.std.specs.Prelude.{position, find, slice_get}
use Rattle.std.specs.List.{position_or_len, list_any}
use Rattle.std.proofs.lemmas.Bool.Decides.{nat_tests}
use Rattle.std.proofs.lemmas.List.Folds.{find_at}
use Rattle.lx_words.proofs.Options.{within_by, by_test, failed}

-- what stands at the first place is what is found

passed : (b : Bool) (n k : ℕ) → cond b (Some n) None ≡ Some k → b ≡ true
passed true n k e = refl
passed false n k e = absurd (cc)

pub found_at : {A : Type 0} (t : A → Bool) (xs : List A) (k : ℕ) (x : Option A) → position t xs ≡ Some k → x ≡ slice_get xs k → x ≡ find t xs
found_at t xs k x p e = e ∙ ap (slice_get xs) (sym (by_test (nat_lt (position_or_len t xs) (length xs)) (position_or_len t xs) k p)) ∙ sym (find_at t xs)

-- something passes exactly where there is a first place

first_below : (m : ℕ) → true ≡ nat_lt 0 (suc m)
first_below m = grind (arith, nat_tests)

next_below : (n m : ℕ) → nat_lt n m ≡ nat_lt (1 + n) (suc m)
next_below n m = grind (arith, nat_tests)

any_below : {A : Type 0} (t : A → Bool) (xs : List A) → list_any t xs ≡ nat_lt (position_or_len t xs) (length xs)
any_below t [] = refl
any_below t (x ∷ xs) = by (t x) (any_below t xs)
  where
    by : (b : Bool) → list_any t xs ≡ nat_lt (position_or_len t xs) (length xs) → (b || list_any t xs) ≡ nat_lt (cond (not b) (1 + position_or_len t xs) 0) (suc (length xs))
    by true rest = first_below (length xs)
    by false rest = rest ∙ next_below (position_or_len t xs) (length xs)

pub there : {A : Type 0} (t : A → Bool) (xs : List A) (k : ℕ) → position t xs ≡ Some k → true ≡ list_any t xs
there t xs k p = sym (any_below t xs ∙ passed (nat_lt (position_or_len t xs) (length xs)) (position_or_len t xs) k p)

pub not_there : {A : Type 0} (t : A → Bool) (xs : List A) → position t xs ≡ None → false ≡ list_any t xs
not_there t xs p = sym (any_below t xs ∙ failed (nat_lt (position_or_len t xs) (length xs)) (position_or_len t xs) p)

pub is_within : {A : Type 0} (t : A → Bool) (xs : List A) (k : ℕ) → Some k ≡ position t xs → k < length xs
is_within t xs k e = within_by (nat_lt (position_or_len t xs) (length xs)) (position_or_len t xs) (length xs) k refl (sym e)

-- a test that no element passes finds nothing
nothing : {A : Type 0} (xs : List A) → find (λ (x : A). false) xs ≡ None
nothing [] = refl
nothing (x ∷ xs) = nothing xs

pub none_found : {A : Type 0} (t : A → Bool) (xs : List A) → ((x : A) → t x ≡ false) → find t xs ≡ None
none_found t xs fails =
    let p : t ≡ (λ x. false) = λ j x. fails x j in
    ap (λ s. find s xs) p ∙ nothing xs

-- tests that agree find the same
pub same_found : {A : Type 0} (s t : A → Bool) (xs : List A) → ((x : A) → s x ≡ t x) → find s xs ≡ find t xs
same_found s t xs same = let p : s ≡ t = λ j x. same x j in ap (λ r. find r xs) p
