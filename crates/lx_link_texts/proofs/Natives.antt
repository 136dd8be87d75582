-- Lemmas on natives by number.
use Rattle.std.proofs.Common.{◌≡◌, ◌≢◌, ℕ, zero, suc, ◌<◌, Option, None, List, [], ◌∷◌, refl, arith}
use Rattle.lx_words.specs.declared.word.Width.{Width}
use Rattle.lx_words.specs.declared.word.Width.TheVariants.{W64}
use Rattle.lx_model.specs.Program.{native_call}
use Rattle.lx_model.specs.Fits.{native_widths}
use Rattle.lx_link_texts.specs.Signatures.{native_result}

-- the third and the last take two words
pub last_widths : (k : ℕ) → k ≢ 0 → k ≢ 1 → k ≢ 3 → k ≢ 4 → W64 ∷ W64 ∷ [] ≡ native_widths (native_call k)
last_widths zero a b c d = absurd (a refl)
last_widths (suc zero) a b c d = absurd (b refl)
last_widths (suc (suc zero)) a b c d = refl
last_widths (suc (suc (suc zero))) a b c d = absurd (c refl)
last_widths (suc (suc (suc (suc zero)))) a b c d = absurd (d refl)
last_widths (suc (suc (suc (suc (suc k))))) a b c d = refl

-- all but the first and the fourth give nothing
pub last_result : (k : ℕ) → k ≢ 0 → k ≢ 3 → None ≡ native_result (native_call k)
last_result zero a b = absurd (a refl)
last_result (suc zero) a b = refl
last_result (suc (suc zero)) a b = refl
last_result (suc (suc (suc zero))) a b = absurd (b refl)
last_result (suc (suc (suc (suc zero)))) a b = refl
last_result (suc (suc (suc (suc (suc k))))) a b = refl
