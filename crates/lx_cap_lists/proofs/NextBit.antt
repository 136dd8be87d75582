-- Where the next bit of a mask stands.
use Rattle.std.proofs.Common.{◌≡◌, ℕ, ◌+◌, ◌-◌, ◌/◌, ◌%◌, ◌^◌, ◌<◌, ◌≤◌, true, false, nat_eq, Option, Some, None, inl, inr, sym, ap, ◌∙◌, w64, arith}
use Rattle.std.specs.Int.{bit_at, bit_not}
use Rattle.std.specs.Option.{unwrap_or}
use Rattle.std.proofs.Math.Nat.{mod-lt}
use Rattle.std.proofs.lemmas.Bool.{cases_lt}
use Rattle.std.proofs.lemmas.Bool.Decides.{nat_tests}
use Rattle.std.proofs.lemmas.Nat.{div-add-mod', pow_pos}
use Rattle.std.proofs.lemmas.Nat.Bits.{bit_at-lt, bit_at-zero, bit_at_above, bit_at_cat_high, bit_at_not}
use Rattle.lx_cap_lists.specs.Mask.{IsNextSet}
use Rattle.lx_cap_nodes.specs.Bits.{is_set}

-- what is shifted down has the bits from the place on
shifted : (n p i : ℕ) → p ≤ i → bit_at n i ≡ bit_at (n / 2 ^ p) (i - p)
shifted n p i le = ap (λ m. bit_at m i) (sym (div-add-mod' n (2 ^ p))) ∙ bit_at_cat_high (n / 2 ^ p) p (n % 2 ^ p) i (mod-lt n (pow_pos p)) le

set_one : (t : ℕ) → t ≡ 1 → nat_eq t 1 ≡ true
set_one t e = grind (arith, nat_tests, e)

set_none : (t : ℕ) → t ≡ 0 → nat_eq t 1 ≡ false
set_none t e = grind (arith, nat_tests, e)

one_set : (t : ℕ) → nat_eq t 1 ≡ true → t ≡ 1
one_set t e = grind (arith, nat_tests, e)

pub at_end : (mask place : ℕ) → place ≡ 64 → IsNextSet mask place None
at_end mask place e = λ k le lt. absurd (omega (arith, e, le, lt))

pub none_left : (mask place : ℕ) → mask / 2 ^ place ≡ 0 → IsNextSet mask place None
none_left mask place e = λ k le lt. set_none (bit_at mask k) (shifted mask place k le ∙ (ap (λ n. bit_at n (k - place)) e ∙ bit_at-zero (k - place)))

-- a bit that is set is one of the mask's
place_fits : (mask k : ℕ) → mask < 2 ^ 64 → bit_at mask k ≡ 1 → k < 64
place_fits mask k fits one = elim (cases_lt k 64) [
  | inl lt ↦ lt
  | inr le ↦ (let none = bit_at_above mask 64 k fits le in absurd (omega (arith, none, one)))
]

pub next_found : (mask place z : ℕ) → mask < 2 ^ 64 → (bit_at (mask / 2 ^ place) z ≡ 1) × ((i : ℕ) → i < z → bit_at (mask / 2 ^ place) i ≡ 0) → IsNextSet mask place (Some (place + z))
next_found mask place z fits found =
    let back : place + z - place ≡ z = omega arith in
    let one : bit_at mask (place + z) ≡ 1 = shifted mask place (place + z) (omega arith) ∙ (ap (bit_at (mask / 2 ^ place)) back ∙ found.0) in (
      omega arith,
      place_fits mask (place + z) fits one,
      (λ k le lt. set_none (bit_at mask k) (shifted mask place k le ∙ found.1 (k - place) (omega (arith, le, lt)))),
      set_one (bit_at mask (place + z)) one,
    )

-- the other bits are set in what is not the mask
turned : (mask k : ℕ) → mask < 2 ^ 64 → k < 64 → is_set (bit_not w64 mask) k ≡ false → is_set mask k ≡ true
turned mask k fits lt none =
    let e : bit_at (bit_not w64 mask) k ≡ 1 - bit_at mask k = bit_at_not w64 mask k fits lt in
    let small : bit_at mask k < 2 = bit_at-lt mask k in
    let f : nat_eq (1 - bit_at mask k) 1 ≡ false = ap (λ t. nat_eq t 1) (sym e) ∙ none in
    set_one (bit_at mask k) (grind (arith, nat_tests, f, small))

-- the place is not that of a run's first bit
unlike : (mask k : ℕ) → mask < 2 ^ 64 → k < 64 → is_set (bit_not w64 mask) k ≡ true → is_set mask k ≡ true → ⊥
unlike mask k fits lt other one =
    let e : bit_at (bit_not w64 mask) k ≡ 1 - bit_at mask k = bit_at_not w64 mask k fits lt in
    let f : nat_eq (1 - bit_at mask k) 1 ≡ true = ap (λ t. nat_eq t 1) (sym e) ∙ other in
    let g : bit_at mask k ≡ 1 = one_set (bit_at mask k) one in
    let h : 1 - bit_at mask k ≡ 1 = one_set (1 - bit_at mask k) f in
    omega (arith, g, h)

-- a run of bits, up to its end
pub record IsRun (mask from to : ℕ) : Type 0 where
  pub some : from < to
  pub within : to ≤ 64
  pub run : (k : ℕ) → from ≤ k → k < to → is_set mask k ≡ true

-- where a run ends
pub ends : (mask from : ℕ) (found : Option ℕ) (to : ℕ) → mask < 2 ^ 64 → from < 64 → is_set mask from ≡ true → IsNextSet (bit_not w64 mask) from found
    → to ≡ unwrap_or found 64 → IsRun mask from to
ends mask from None to fits lt one next e =
    record { some = omega (arith, e, lt); within = omega (arith, e); run = λ k le kt. (let below : k < 64 = omega (arith, e, kt) in turned mask k fits below (next k le below)) }
ends mask from (Some at) to fits lt one next e =
    record {
      some = elim (cases_lt from at) [
        | inl before ↦ omega (arith, e, before)
        | inr behind ↦ (let same : from ≡ at = omega (arith, behind, next.0) in absurd (unlike mask from fits lt (ap (is_set (bit_not w64 mask)) same ∙ next.3) one))
      ];
      within = omega (arith, e, next.1);
      run = λ k le kt. (let below : k < at = omega (arith, e, kt) in turned mask k fits (omega (arith, below, next.1)) (next.2 k le below));
    }
