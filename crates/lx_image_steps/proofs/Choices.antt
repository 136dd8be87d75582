-- Which of two is chosen.
use Rattle.std.proofs.Common.{◌≡◌, ℕ, zero, suc, ◌<◌, refl, arith}
use Rattle.lx_model.specs.Effect.{choice}

pub second_chosen : {A : Type 0} (n : ℕ) (first second : A) → n ≡ 0 → choice n first second ≡ second
second_chosen zero first second h = refl
second_chosen (suc n) first second h = absurd (omega (arith, h))

pub first_chosen : {A : Type 0} (n : ℕ) (first second : A) → 0 < n → choice n first second ≡ first
first_chosen zero first second h = absurd (omega (arith, h))
first_chosen (suc n) first second h = refl
