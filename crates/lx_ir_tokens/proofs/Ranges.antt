-- Integers of more than 128 bits.
use Rattle.std.proofs.Common.{◌≡◌, ℕ, zero, suc, ◌^◌, ◌≤◌, Bool, true, false, None, arith}
use Rattle.std.proofs.lemmas.Bool.Decides.{nat_tests}
use Rattle.lx_ir_tokens.specs.Said.{with_sign, fitting}

-- No sign makes a magnitude of more than 128 bits fit.
pub too_wide : (minus : Bool) (n : ℕ) → 2 ^ 128 ≤ n → fitting (with_sign minus n) ≡ None
too_wide false n wide = grind (arith, nat_tests)
too_wide true zero wide = absurd (omega arith)
too_wide true (suc n) wide = grind (arith, nat_tests)
