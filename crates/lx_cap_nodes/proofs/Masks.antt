-- The bits of masks that are made of others.
use Rattle.std.proofs.Common.{zero, suc, max, min, ◌≡◌, ◌∙◌, inl, inr, refl, sym, ap, subst, ℕ, ◌-◌, ◌*◌, ◌/◌, ◌%◌, ◌^◌, ◌<◌, ◌≤◌, Bool, true, false, not, ◌&&◌, ◌||◌, nat_eq, nat_le, nat_lt, bit_and, bit_or, w64, arith}
use Rattle.std.specs.Int.{bit_at}
use Rattle.std.proofs.lemmas.Bool.{cases_Bool, cases_eq}
use Rattle.std.proofs.lemmas.Bool.Decides.{nat_tests}
use Rattle.std.proofs.lemmas.Nat.Bits.{bit_at-zero, bit_at-lt, bit_at_and, bit_at_or, bit_at_clear_same, bit_at_clear_other, bit_at_mask_inside, bit_at_mask_below, bit_at_ones, bit_at_ones_above, ones_shl, ones_shr}
use Rattle.lx_cap_nodes.specs.Bits.{is_set}

pub none_set : (k : ℕ) → is_set 0 k ≡ false
none_set k = ap (λ n. nat_eq n 1) (bit_at-zero k)

max_one : (a b : ℕ) → a < 2 → b < 2 → nat_eq (max a b) 1 ≡ (nat_eq a 1 || nat_eq b 1)
max_one zero zero p q = refl
max_one zero (suc zero) p q = refl
max_one (suc zero) zero p q = refl
max_one (suc zero) (suc zero) p q = refl
max_one (suc (suc a)) b p q = absurd (omega arith)
max_one zero (suc (suc b)) p q = absurd (omega arith)
max_one (suc zero) (suc (suc b)) p q = absurd (omega arith)

min_one : (a b : ℕ) → a < 2 → b < 2 → nat_eq (min a b) 1 ≡ (nat_eq a 1 && nat_eq b 1)
min_one zero zero p q = refl
min_one zero (suc zero) p q = refl
min_one (suc zero) zero p q = refl
min_one (suc zero) (suc zero) p q = refl
min_one (suc (suc a)) b p q = absurd (omega arith)
min_one zero (suc (suc b)) p q = absurd (omega arith)
min_one (suc zero) (suc (suc b)) p q = absurd (omega arith)

pub set_in_either : (m n k : ℕ) → is_set (bit_or m n) k ≡ (is_set m k || is_set n k)
set_in_either m n k = ap (λ t. nat_eq t 1) (bit_at_or m n k) ∙ max_one (bit_at m k) (bit_at n k) (bit_at-lt m k) (bit_at-lt n k)

pub set_in_both : (m n k : ℕ) → is_set (bit_and m n) k ≡ (is_set m k && is_set n k)
set_in_both m n k = ap (λ t. nat_eq t 1) (bit_at_and m n k) ∙ min_one (bit_at m k) (bit_at n k) (bit_at-lt m k) (bit_at-lt n k)

not_itself : (b : Bool) (p : ℕ) → false ≡ (b && not (nat_eq p p))
not_itself b p = grind (arith, nat_tests)

not_other : (b : Bool) (k p : ℕ) → (k ≡ p → ⊥) → b ≡ (b && not (nat_eq k p))
not_other true k p other = grind (arith, nat_tests)
not_other false k p other = refl

pub set_without : (m p k : ℕ) → p < 64 → k < 64 → is_set (bit_and m (18446744073709551615 - 1 * 2 ^ p % 18446744073709551616)) k ≡ (is_set m k && not (nat_eq k p))
set_without m p k low below = elim (cases_eq k p) [
  | inl same ↦
      subst (λ (i : ℕ). is_set (bit_and m (18446744073709551615 - 1 * 2 ^ p % 18446744073709551616)) i ≡ (is_set m i && not (nat_eq i p))) (sym same)
      (ap (λ t. nat_eq t 1) (bit_at_clear_same w64 m p low) ∙ not_itself (is_set m p) p)
  | inr other ↦ ap (λ t. nat_eq t 1) (bit_at_clear_other w64 m p low k below other) ∙ not_other (is_set m k) k p other
]

set_from : (from k : ℕ) → k < 64 → is_set (2 ^ 64 - 2 ^ from) k ≡ nat_le from k
set_from from k below = elim (cases_Bool (nat_le from k)) [
  | inl is ↦ (let low : from ≤ k = grind (arith, nat_tests) in ap (λ t. nat_eq t 1) (bit_at_mask_inside from 64 k low below) ∙ sym is)
  | inr out ↦ (let high : k < from = grind (arith, nat_tests) in ap (λ t. nat_eq t 1) (bit_at_mask_below from 64 k high) ∙ sym out)
]

set_up_to : (to k : ℕ) → is_set (2 ^ to - 1) k ≡ nat_lt k to
set_up_to to k = elim (cases_Bool (nat_lt k to)) [
  | inl is ↦ (let low : k < to = grind (arith, nat_tests) in ap (λ t. nat_eq t 1) (bit_at_ones to k low) ∙ sym is)
  | inr out ↦ (let high : to ≤ k = grind (arith, nat_tests) in ap (λ t. nat_eq t 1) (bit_at_ones_above to k high) ∙ sym out)
]

pub set_between : (from to k : ℕ) → from < to → to ≤ 64 → k < 64
    → is_set (bit_and (18446744073709551615 * 2 ^ from % 18446744073709551616) (18446744073709551615 / 2 ^ (64 - to))) k ≡ (nat_le from k && nat_lt k to)
set_between from to k some within below =
    let high : 64 - (64 - to) ≡ to = omega arith in
    let up : 18446744073709551615 / 2 ^ (64 - to) ≡ 2 ^ to - 1 = ones_shr 64 (64 - to) (omega arith) ∙ ap (λ j. 2 ^ j - 1) high in
    let low : 18446744073709551615 * 2 ^ from % 18446744073709551616 ≡ 2 ^ 64 - 2 ^ from = ones_shl 64 from (omega arith) in
    ap (λ n. is_set (bit_and (18446744073709551615 * 2 ^ from % 18446744073709551616) n) k) up
    ∙ ap (λ m. is_set (bit_and m (2 ^ to - 1)) k) low
    ∙ set_in_both (2 ^ 64 - 2 ^ from) (2 ^ to - 1) k
    ∙ ap (λ b. b && is_set (2 ^ to - 1) k) (set_from from k below)
    ∙ ap (λ b. nat_le from k && b) (set_up_to to k)
