-- The places of keys.
use Rattle.std.proofs.Common.{◌≡◌, ℕ, suc, ◌+◌, ◌<◌, ◌≤◌, Bool, true, false, ◌||◌, cond, List, [], ◌∷◌, ◌++◌, length, Some, None, refl, ap, ◌∙◌, arith}
use Rattle.std.specs.List.{position_from, list_any}
use Rattle.std.proofs.lemmas.Bool.Decides.{nat_tests}
use Rattle.lx_cap_lists.specs.Tables.{Key, same_key}

pub same_self : (k : Key) → same_key k k ≡ true
same_self k = grind (arith, nat_tests)

module _ {T : Type 0} (t : T → Bool) where
  pub absent : (i : ℕ) (xs : List T) → position_from t i xs ≡ None → list_any t xs ≡ false
  absent i [] e = refl
  absent i (x ∷ xs) e =
      (elim (t x) as (λ b. cond b (Some i) (position_from t (i + 1) xs) ≡ None → (b || list_any t xs) ≡ false) [
        | true ↦ λ f. absurd (cc)
        | false ↦ λ f. absent (i + 1) xs f
      ]) e

  pub found_last : (i : ℕ) (xs : List T) (y : T) → position_from t i xs ≡ None → t y ≡ true → position_from t i (xs ++ y ∷ []) ≡ Some (i + length xs)
  found_last i [] y e is = ap (λ b. cond b (Some i) None) is ∙ ap Some (omega arith)
  found_last i (x ∷ xs) y e is =
      (elim (t x) as (λ b. cond b (Some i) (position_from t (i + 1) xs) ≡ None → cond b (Some i) (position_from t (i + 1) (xs ++ y ∷ [])) ≡ Some (i + suc (length xs))) [
        | true ↦ λ f. absurd (cc)
        | false ↦ λ f. found_last (i + 1) xs y f is ∙ ap Some (omega arith)
      ]) e

  pub found_before : (i : ℕ) (xs : List T) (y : T) (j : ℕ) → position_from t i xs ≡ Some j → position_from t i (xs ++ y ∷ []) ≡ Some j
  found_before i [] y j e = absurd (cc)
  found_before i (x ∷ xs) y j e =
      (elim (t x) as (λ b. cond b (Some i) (position_from t (i + 1) xs) ≡ Some j → cond b (Some i) (position_from t (i + 1) (xs ++ y ∷ [])) ≡ Some j) [
        | true ↦ λ f. f
        | false ↦ λ f. found_before (i + 1) xs y j f
      ]) e

  pub not_last : (i : ℕ) (xs : List T) (y : T) → position_from t i xs ≡ None → t y ≡ false → position_from t i (xs ++ y ∷ []) ≡ None
  not_last i [] y e is = ap (λ b. cond b (Some i) None) is
  not_last i (x ∷ xs) y e is =
      (elim (t x) as (λ b. cond b (Some i) (position_from t (i + 1) xs) ≡ None → cond b (Some i) (position_from t (i + 1) (xs ++ y ∷ [])) ≡ None) [
        | true ↦ λ f. absurd (cc)
        | false ↦ λ f. not_last (i + 1) xs y f is
      ]) e

  pub found_within : (i : ℕ) (xs : List T) (j : ℕ) → position_from t i xs ≡ Some j → (i ≤ j) × (j < i + length xs)
  found_within i [] j e = absurd (cc)
  found_within i (x ∷ xs) j e =
      (elim (t x) as (λ b. cond b (Some i) (position_from t (i + 1) xs) ≡ Some j → (i ≤ j) × (j < i + suc (length xs))) [
        | true ↦ λ f. let same : i ≡ j = cc in (omega (arith, same), omega (arith, same))
        | false ↦ λ f. let h = found_within (i + 1) xs j f in (let a = h.0 in omega (arith, a), let b = h.1 in omega (arith, b))
      ]) e

-- two keys at one place are the same
same_pair : (x y k : Key) → same_key x k ≡ true → same_key y k ≡ true → x ≡ y
same_pair x y k e f =
    let a : x.0 ≡ y.0 = grind (arith, nat_tests, e, f) in
    let b : x.1 ≡ y.1 = grind (arith, nat_tests, e, f) in
    λ j. (a j, b j)

pub one_key : (i : ℕ) (keys : List Key) (x y : Key) (j : ℕ) → position_from (same_key x) i keys ≡ Some j → position_from (same_key y) i keys ≡ Some j → x ≡ y
one_key i [] x y j e f = absurd (cc)
one_key i (k ∷ keys) x y j e f =
    (elim (same_key x k) as (λ b. same_key x k ≡ b → cond b (Some i) (position_from (same_key x) (i + 1) keys) ≡ Some j → x ≡ y) [
      | true ↦ λ p e1. (elim (same_key y k) as (λ d. same_key y k ≡ d → cond d (Some i) (position_from (same_key y) (i + 1) keys) ≡ Some j → x ≡ y) [
        | true ↦ λ q f1. same_pair x y k p q
        | false ↦ λ q f1. absurd (let same : i ≡ j = cc in let h = (found_within (same_key y) (i + 1) keys j f1).0 in omega (arith, same, h))
      ]) refl f
      | false ↦ λ p e1. (elim (same_key y k) as (λ d. same_key y k ≡ d → cond d (Some i) (position_from (same_key y) (i + 1) keys) ≡ Some j → x ≡ y) [
        | true ↦ λ q f1. absurd (let same : i ≡ j = cc in let h = (found_within (same_key x) (i + 1) keys j e1).0 in omega (arith, same, h))
        | false ↦ λ q f1. one_key (i + 1) keys x y j e1 f1
      ]) refl f
    ]) refl e
