-- A test of some number below a bound.
use Rattle.std.proofs.Common.{◌≡◌, ℕ, zero, suc, ◌+◌, ◌<◌, Bool, true, false, ◌&&◌, ◌||◌, nat_eq, refl, sym, ap, ◌∙◌, arith}
use Rattle.std.proofs.lemmas.Bool.Decides.{nat_tests}
use Rattle.std.proofs.lemmas.Bool.{or_right, or_left}
use Rattle.lx_cap_lists.specs.Lists.{some_below}

pub some_from : (n k : ℕ) (p : ℕ → Bool) → k < n → p k ≡ true → some_below n p ≡ true
unfolding some_below
some_from zero k p h is = absurd (omega (arith, h))
some_from (suc n) k p h is =
    (elim (nat_eq k n) as (λ t. nat_eq k n ≡ t → (p n || some_below n p) ≡ true) [
      | true ↦ λ e. let at : k ≡ n = grind (arith, nat_tests, e) in or_left (p n) (some_below n p) (ap p (sym at) ∙ is)
      | false ↦ λ e. or_right (p n) (some_below n p) (some_from n k p (let lt : k < n = grind (arith, nat_tests, e, h) in lt) is)
    ]) refl

pub some_inside : (n : ℕ) (p : ℕ → Bool) → some_below n p ≡ true → (k : ℕ) × (p k ≡ true)
unfolding some_below
some_inside zero p h = absurd (cc)
some_inside (suc n) p h =
    (elim (p n) as (λ t. p n ≡ t → (t || some_below n p) ≡ true → (k : ℕ) × (p k ≡ true)) [
      | true ↦ λ e f. (n, e)
      | false ↦ λ e f. some_inside n p f
    ]) refl h

-- one number more
pub some_more : (n : ℕ) (p : ℕ → Bool) → some_below (n + 1) p ≡ (p n || some_below n p)
unfolding some_below
some_more n p = ap (λ k. some_below k p) (let e : n + 1 ≡ suc n = omega arith in e)

pub some_none : (p : ℕ → Bool) → some_below 0 p ≡ false
unfolding some_below
some_none p = refl

-- what is found at one number more
pub one_more_found : (n : ℕ) (b : Bool) (p : ℕ → Bool) → ((b && some_below n p) || (b && p n)) ≡ (b && some_below (n + 1) p)
one_more_found n true p = swap (some_below n p) (p n) ∙ sym (some_more n p)
  where
    swap : (x y : Bool) → (x || y) ≡ (y || x)
    swap true true = refl
    swap true false = refl
    swap false true = refl
    swap false false = refl
one_more_found n false p = refl
