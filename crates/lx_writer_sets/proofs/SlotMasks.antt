-- The mask of a slot's bytes in a part, and the entries that it meets.
use Rattle.std.proofs.Common.{◌≡◌, ◌∙◌, inl, inr, refl, sym, ap, ℕ, zero, suc, ◌+◌, ◌-◌, ◌*◌, ◌/◌, ◌%◌, ◌^◌, ◌<◌, ◌≤◌, Bool, true, false, not, ◌&&◌, nat_eq, nat_lt, get_or, bit_and, arith, eqb-true}
use Rattle.std.specs.Int.{bit_at}
use Rattle.std.specs.List.{list_any}
use Rattle.std.proofs.lemmas.List.Folds.{list_any_at}
use Rattle.std.proofs.lemmas.Bool.{both_ways, cases_Bool, false_from_ne_true, or_cases}
use Rattle.std.proofs.lemmas.Bool.Decides.{nat_tests}
use Rattle.std.proofs.lemmas.Nat.Bits.{bit_at-lt, bit_at-zero, bit_at_above, same_from_bits}
use Rattle.lx_words.proofs.Tests.{eq_self, first_of, second_of}
use Rattle.lx_caps.specs.Regions.{covers}
use Rattle.lx_writer_sets.specs.declared.entry.Entry.{Entry}
use Rattle.lx_cap_nodes.specs.Bits.{is_set}
use Rattle.lx_writer_sets.specs.Sets.{eight, has_byte, touches, IsSlotMask}
use Rattle.lx_cap_nodes.proofs.Masks.{none_set, set_in_both}

-- one of the eight that passes
one_of_eight : (p : ℕ → Bool) → list_any p eight ≡ true → (k : ℕ) × (k < 8) × (p k ≡ true)
one_of_eight p is = elim (or_cases (p 0) _ is) [
  | inl e ↦ (0, omega arith, e)
  | inr r1 ↦ elim (or_cases (p 1) _ r1) [
    | inl e ↦ (1, omega arith, e)
    | inr r2 ↦ elim (or_cases (p 2) _ r2) [
      | inl e ↦ (2, omega arith, e)
      | inr r3 ↦ elim (or_cases (p 3) _ r3) [
        | inl e ↦ (3, omega arith, e)
        | inr r4 ↦ elim (or_cases (p 4) _ r4) [
          | inl e ↦ (4, omega arith, e)
          | inr r5 ↦ elim (or_cases (p 5) _ r5) [
            | inl e ↦ (5, omega arith, e)
            | inr r6 ↦ elim (or_cases (p 6) _ r6) [
              | inl e ↦ (6, omega arith, e)
              | inr r7 ↦ elim (or_cases (p 7) _ r7) [ inl e ↦ (7, omega arith, e) | inr none ↦ absurd (cc) ]
            ]
          ]
        ]
      ]
    ]
  ]
]

place_of_eight : (k : ℕ) → k < 8 → get_or eight k 0 ≡ k
place_of_eight zero below = refl
place_of_eight (suc zero) below = refl
place_of_eight (suc (suc zero)) below = refl
place_of_eight (suc (suc (suc zero))) below = refl
place_of_eight (suc (suc (suc (suc zero)))) below = refl
place_of_eight (suc (suc (suc (suc (suc zero))))) below = refl
place_of_eight (suc (suc (suc (suc (suc (suc zero)))))) below = refl
place_of_eight (suc (suc (suc (suc (suc (suc (suc zero))))))) below = refl
place_of_eight (suc (suc (suc (suc (suc (suc (suc (suc k)))))))) below = absurd (omega arith)

in_eight : (p : ℕ → Bool) (k : ℕ) → k < 8 → p k ≡ true → list_any p eight ≡ true
in_eight p k below is = list_any_at p eight k 0 below (ap p (place_of_eight k below) ∙ is)

pub bit_is_none : (b : ℕ) → b < 2 → nat_eq b 1 ≡ false → b ≡ 0
bit_is_none b below out = grind (arith, nat_tests, below, out)

-- a number of which no bit is set
no_bits : (n : ℕ) → ((k : ℕ) → is_set n k ≡ false) → n ≡ 0
no_bits n none = same_from_bits n 0 (λ k. bit_is_none (bit_at n k) (bit_at-lt n k) (none k) ∙ sym (bit_at-zero k))

above : (n k : ℕ) → n < 2 ^ 64 → 64 ≤ k → is_set n k ≡ false
above n k small high = ap (λ b. nat_eq b 1) (bit_at_above n 64 k small high)

nonzero : (n : ℕ) → (n ≡ 0 → ⊥) → not (nat_eq n 0) ≡ true
nonzero n ne = grind (arith, nat_tests, ne)

same_place : (part b : ℕ) → part ≡ b / 64 → part * 64 + b % 64 ≡ b
same_place part b is = omega (arith, is)

covered : (slot k b : ℕ) → k < 8 → b ≡ slot + k → covers slot 8 b ≡ true
covered slot k b below is = grind (arith, nat_tests, below, is)

module _ (part : ℕ) (e : Entry) (slot more : ℕ) (small : more < 2 ^ 64) (mask : IsSlotMask slot part more) where
  -- a byte of both
  met : (k : ℕ) → k < 8 → has_byte part e (slot + k) ≡ true → bit_and e.mask more ≡ 0 → ⊥
  met k below is none =
      let at : part ≡ (slot + k) / 64 = eqb-true part ((slot + k) / 64) (first_of (nat_eq part ((slot + k) / 64)) (is_set e.mask ((slot + k) % 64)) is) in
      let here = second_of (nat_eq part ((slot + k) / 64)) (is_set e.mask ((slot + k) % 64)) is in
      let there : is_set more ((slot + k) % 64) ≡ true = mask ((slot + k) % 64) (omega arith) ∙ covered slot k (part * 64 + (slot + k) % 64) below (same_place part (slot + k) at) in
      let both : is_set (bit_and e.mask more) ((slot + k) % 64) ≡ true = set_in_both e.mask more ((slot + k) % 64) ∙ (ap (λ b. b && is_set more ((slot + k) % 64)) here ∙ there) in
      both_ways (is_set (bit_and e.mask more) ((slot + k) % 64)) (ap (λ n. is_set n ((slot + k) % 64)) none ∙ none_set ((slot + k) % 64)) both

  -- a bit of both
  has_at : (k : ℕ) → k < 64 → is_set e.mask k ≡ true → has_byte part e (part * 64 + k) ≡ true
  has_at k below here =
      let at : (part * 64 + k) / 64 ≡ part = omega (arith, below) in
      let place : (part * 64 + k) % 64 ≡ k = omega (arith, below) in
      ap (λ n. nat_eq part n && is_set e.mask ((part * 64 + k) % 64)) at ∙ (ap (λ n. nat_eq part part && is_set e.mask n) place ∙ (ap (λ b. nat_eq part part && b) here ∙ ap (λ b. b && true) (eq_self part)))

  found : (k : ℕ) → k < 64 → is_set (bit_and e.mask more) k ≡ true → list_any (λ i. has_byte part e (slot + i)) eight ≡ true
  found k below is =
      let both : (is_set e.mask k && is_set more k) ≡ true = sym (set_in_both e.mask more k) ∙ is in
      let here : is_set e.mask k ≡ true = first_of (is_set e.mask k) (is_set more k) both in
      let there : covers slot 8 (part * 64 + k) ≡ true = sym (mask k below) ∙ second_of (is_set e.mask k) (is_set more k) both in
      let low : slot ≤ part * 64 + k = grind (arith, nat_tests, there) in
      let high : part * 64 + k < slot + 8 = grind (arith, nat_tests, there) in
      let whole : slot + (part * 64 + k - slot) ≡ part * 64 + k = omega (arith, low) in
      in_eight (λ i. has_byte part e (slot + i)) (part * 64 + k - slot) (omega (arith, low, high))
      (ap (has_byte part e) whole ∙ has_at k below here)

  not_met : list_any (λ i. has_byte part e (slot + i)) eight ≡ false → (k : ℕ) → is_set (bit_and e.mask more) k ≡ false
  not_met out k = false_from_ne_true (is_set (bit_and e.mask more) k) (λ is. elim (cases_Bool (nat_lt k 64)) [
    | inl low ↦ both_ways (list_any (λ i. has_byte part e (slot + i)) eight) out (found k (grind (arith, nat_tests, low)) is)
    | inr high ↦ both_ways (is_set more k) (above more k small (grind (arith, nat_tests, high)))
        (second_of (is_set e.mask k) (is_set more k) (sym (set_in_both e.mask more k) ∙ is))
  ])

  -- the masks have a bit in common exactly where the entry has one of the slot's bytes
  pub met_exactly : not (nat_eq (bit_and e.mask more) 0) ≡ touches part e slot
  unfolding touches
  met_exactly = elim (cases_Bool (list_any (λ i. has_byte part e (slot + i)) eight)) [
    | inl is ↦ (let k = one_of_eight (λ i. has_byte part e (slot + i)) is in nonzero (bit_and e.mask more) (met k.0 k.1 k.2) ∙ sym is)
    | inr out ↦ (let none = no_bits (bit_and e.mask more) (not_met out) in ap (λ n. not (nat_eq n 0)) none ∙ sym out)
  ]
