-- Bits that are all there, and bytes that are all held.
use Rattle.std.proofs.Common.{◌≡◌, ◌≢◌, ◌⊎◌, inl, inr, ℕ, zero, suc, ◌+◌, ◌*◌, ◌/◌, ◌<◌, ◌≤◌, ◌^◌, min, Bool, true, false, ◌&&◌, ◌||◌, nat_eq, bit_and, refl, sym, ap, ◌∙◌, arith}
use Rattle.std.specs.Int.{bit_at}
use Rattle.std.proofs.lemmas.Bool.{cases_lt, and_parts}
use Rattle.std.proofs.lemmas.Bool.Decides.{nat_tests}
use Rattle.std.proofs.lemmas.Nat.Bits.{bit_at-lt, bit_at_and, bit_at_above, same_from_bits}
use Rattle.lx_words.proofs.Tests.{eq_self}
use Rattle.lx_caps.specs.Regions.{covers}
use Rattle.lx_caps.specs.History.{each_byte}
use Rattle.lx_cap_nodes.specs.Bits.{is_set}
use Rattle.lx_cap_nodes.proofs.Masks.{set_in_both}
use Rattle.lx_cap_nodes.proofs.Ranges.{covered, covered_more, none_before, all_before}

and_left : (a b : Bool) → (a && b) ≡ b → b ≡ true → a ≡ true
and_left true b e f = refl
and_left false b e f = e ∙ f

-- a bit that is wanted is there
pub present : (r w k : ℕ) → nat_eq (bit_and r w) w ≡ true → is_set w k ≡ true → is_set r k ≡ true
present r w k e wanted =
    let same : bit_and r w ≡ w = grind (arith, nat_tests, e) in
    and_left (is_set r k) (is_set w k) (sym (set_in_both r w k) ∙ ap (λ n. is_set n k) same) wanted

min_zero : (a : ℕ) → min a 0 ≡ 0
min_zero a = omega arith

min_same : (a b : ℕ) → a < 2 → b < 2 → (nat_eq b 1 ≡ true → nat_eq a 1 ≡ true) → min a b ≡ b
min_same zero zero p q h = refl
min_same zero (suc zero) p q h = absurd (let e = h refl in cc)
min_same (suc zero) zero p q h = refl
min_same (suc zero) (suc zero) p q h = refl
min_same (suc (suc a)) b p q h = absurd (omega (arith, p))
min_same zero (suc (suc b)) p q h = absurd (omega (arith, q))
min_same (suc zero) (suc (suc b)) p q h = absurd (omega (arith, q))

-- a wanted bit that lacks, or all those below are there
pub lacks : (r w n : ℕ) → ((k : ℕ) × (k < n) × (is_set w k ≡ true) × (is_set r k ≡ false)) ⊎ ((k : ℕ) → k < n → is_set w k ≡ true → is_set r k ≡ true)
lacks r w zero = inr (λ k h. absurd (omega (arith, h)))
lacks r w (suc n) = elim (lacks r w n) [
  | inl found ↦ inl (found.0, (let h = found.1 in omega (arith, h)), found.2, found.3)
  | inr all ↦ (elim (is_set w n) as (λ t. is_set w n ≡ t → ((k : ℕ) × (k < suc n) × (is_set w k ≡ true) × (is_set r k ≡ false)) ⊎ ((k : ℕ) → k < suc n → is_set w k ≡ true → is_set r k ≡ true)) [
    | false ↦ λ e. inr (λ k h is. elim (cases_lt k n) [ inl lt ↦ all k lt is | inr ge ↦ absurd (let at : k ≡ n = omega (arith, h, ge) in let no : is_set w k ≡ false = ap (is_set w) at ∙ e in cc) ])
    | true ↦ λ e. (elim (is_set r n) as (λ t. is_set r n ≡ t → ((k : ℕ) × (k < suc n) × (is_set w k ≡ true) × (is_set r k ≡ false)) ⊎ ((k : ℕ) → k < suc n → is_set w k ≡ true → is_set r k ≡ true)) [
      | false ↦ λ f. inl (n, omega arith, e, f)
      | true ↦ λ f. inr (λ k h is. elim (cases_lt k n) [ inl lt ↦ all k lt is | inr ge ↦ let at : k ≡ n = omega (arith, h, ge) in ap (is_set r) at ∙ f ])
    ]) refl
  ]) refl
]

pub missing : (r w : ℕ) → w < 2 ^ 64 → nat_eq (bit_and r w) w ≡ false → (k : ℕ) × (k < 64) × (is_set w k ≡ true) × (is_set r k ≡ false)
missing r w fits e = elim (lacks r w 64) [
  | inl found ↦ found
  | inr all ↦ absurd (
      let same : bit_and r w ≡ w = same_from_bits (bit_and r w) w (λ i. bit_at_and r w i ∙ elim (cases_lt i 64) [
        | inl lt ↦ min_same (bit_at r i) (bit_at w i) (bit_at-lt r i) (bit_at-lt w i) (all i lt)
        | inr ge ↦ let none : bit_at w i ≡ 0 = bit_at_above w 64 i fits ge in ap (min (bit_at r i)) none ∙ (min_zero (bit_at r i) ∙ sym none)
      ]) in
      let is : nat_eq (bit_and r w) w ≡ true = ap (λ n. nat_eq n w) same ∙ eq_self w in
      cc)
]

-- each byte of a range
next_covers : (at n b : ℕ) → covers at (suc n) b ≡ true → b ≢ at → covers (suc at) n b ≡ true
next_covers at n b c ne = grind (arith, nat_tests, c, ne)

less_covers : (at n b : ℕ) → covers (suc at) n b ≡ true → covers at (suc n) b ≡ true
less_covers at n b c = grind (arith, nat_tests, c)

pub each_all : (p : ℕ → Bool) (at n : ℕ) → ((b : ℕ) → covers at n b ≡ true → p b ≡ true) → each_byte p at n ≡ true
each_all p at zero h = refl
each_all p at (suc n) h =
    let here : p at ≡ true = h at (grind (arith, nat_tests)) in
    ap (λ t. elim t [ false ↦ false | true ↦ each_byte p (suc at) n ]) here ∙ each_all p (suc at) n (λ b c. h b (less_covers at n b c))

pub each_none : (p : ℕ → Bool) (at n b : ℕ) → covers at n b ≡ true → p b ≡ false → each_byte p at n ≡ false
each_none p at zero b c out = absurd (grind (arith, nat_tests, c))
each_none p at (suc n) b c out =
    (elim (p at) as (λ t. p at ≡ t → elim t [ false ↦ false | true ↦ each_byte p (suc at) n ] ≡ false) [
      | false ↦ λ e. refl
      | true ↦ λ e. each_none p (suc at) n b (next_covers at n b c (λ same. absurd (let held : p b ≡ true = ap p same ∙ e in cc))) out
    ]) refl

-- the bytes of one part more
pub held_more : (p : ℕ → Bool) (at size part : ℕ) → ((b : ℕ) → covered at size part b ≡ true → p b ≡ true) → ((b : ℕ) → covers at size b ≡ true → nat_eq part (b / 64) ≡ true → p b ≡ true)
    → (b : ℕ) → covered at size (part + 1) b ≡ true → p b ≡ true
held_more p at size part so_far here b is =
    (elim (covered at size part b) as (λ t. covered at size part b ≡ t → p b ≡ true) [
      | true ↦ λ e. so_far b e
      | false ↦ λ e.
          let rest : (covers at size b && nat_eq part (b / 64)) ≡ true = sym (ap (λ t. t || (covers at size b && nat_eq part (b / 64))) e) ∙ (sym (covered_more at size part b) ∙ is) in
          let both = and_parts (covers at size b) (nat_eq part (b / 64)) rest in
          here b both.0 both.1
    ]) refl

pub held_none : (p : ℕ → Bool) (at size b : ℕ) → covered at size (at / 64) b ≡ true → p b ≡ true
held_none p at size b is = absurd (let no = none_before at size b in cc)

pub held_all : (p : ℕ → Bool) (at size end : ℕ) → 0 < size → end ≡ (at + size + 63) / 64 → ((b : ℕ) → covered at size end b ≡ true → p b ≡ true) → each_byte p at size ≡ true
held_all p at size end some is all = each_all p at size (λ b c. all b (all_before at size b end some is ∙ c))

-- the first byte of a range in a part
pub some_byte : (at size part : ℕ) → at / 64 ≤ part → part * 64 < at + size → 0 < size → (b : ℕ) × (covers at size b ≡ true) × (b / 64 ≡ part)
some_byte at size part low high some = elim (cases_lt at (part * 64)) [
  | inl lt ↦ (part * 64, grind (arith, nat_tests, lt, high), omega arith)
  | inr ge ↦ (at, grind (arith, nat_tests, some), omega (arith, ge, low))
]
