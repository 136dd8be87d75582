-- A test of each byte of a range.
use Rattle.std.proofs.Common.{◌≡◌, ◌∙◌, inl, inr, ap, subst, refl, ℕ, zero, suc, ◌+◌, ◌-◌, ◌<◌, ◌≤◌, Bool, true, false, arith}
use Rattle.std.proofs.lemmas.Bool.{cases_eq}
use Rattle.lx_caps.specs.History.{each_byte}
use Rattle.lx_caps.proofs.Tests.{chosen}

-- a byte that passes leaves the rest
pub each_byte-passes : (p : ℕ → Bool) (at n : ℕ) → p at ≡ true → each_byte p at (suc n) ≡ each_byte p (suc at) n
each_byte-passes p at n is = chosen (p at) (each_byte p (suc at) n) is

-- one more byte passes
pub each_byte-more : (p : ℕ → Bool) (at size i : ℕ) → i < size → p (at + i) ≡ true → each_byte p (at + i) (size - i) ≡ each_byte p (at + (i + 1)) (size - (i + 1))
each_byte-more p at size i below is =
    let left : size - i ≡ suc (size - (i + 1)) = omega arith in
    let next : suc (at + i) ≡ at + (i + 1) = omega arith in
    ap (λ n. each_byte p (at + i) n) left ∙ each_byte-passes p (at + i) (size - (i + 1)) is ∙ ap (λ a. each_byte p a (size - (i + 1))) next

passing : (b rest : Bool) → elim b [ false ↦ false | true ↦ rest ] ≡ true → (b ≡ true) × (rest ≡ true)
passing true rest is = (refl, is)
passing false rest is = absurd cc

-- each byte passes
pub each_byte-at : (p : ℕ → Bool) (at size : ℕ) → each_byte p at size ≡ true → (b : ℕ) → at ≤ b → b < at + size → p b ≡ true
each_byte-at p at zero is b low high = absurd (omega arith)
each_byte-at p at (suc n) is b low high =
    let i = passing (p at) (each_byte p (suc at) n) is in
    elim (cases_eq at b) [
      | inl here ↦ subst (λ (a : ℕ). p a ≡ true) here i.0
      | inr there ↦ each_byte-at p (suc at) n i.1 b (omega arith) (omega arith)
    ]

pub each_byte-from : (p : ℕ → Bool) (at size : ℕ) → ((b : ℕ) → at ≤ b → b < at + size → p b ≡ true) → each_byte p at size ≡ true
each_byte-from p at zero each = refl
each_byte-from p at (suc n) each =
    each_byte-passes p at n (each at (omega arith) (omega arith)) ∙ each_byte-from p (suc at) n (λ b low high. each b (omega arith) (omega arith))
