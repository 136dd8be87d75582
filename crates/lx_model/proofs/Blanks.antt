-- Registers that are zero.
use Rattle.std.proofs.Common.{ap, length, refl, replicate, suc, zero, ℕ, ◌≡◌}
use Rattle.lx_model.specs.Thread.{zero_word}

pub zeros_many : (n : ℕ) → length (replicate n zero_word) ≡ n
zeros_many zero = refl
zeros_many (suc n) = ap suc (zeros_many n)
