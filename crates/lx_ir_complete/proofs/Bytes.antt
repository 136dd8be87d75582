-- Tests of bytes.
use Rattle.std.proofs.Common.{◌≡◌, ℕ, ◌<◌, List, [], ◌∷◌, Bool, true, not, ◌&&◌, ◌||◌, refl, ap, ◌∙◌}
use Rattle.std.specs.List.{list_all}
use Rattle.std.proofs.lemmas.Bool.{agree_below, agree_below_at, and_parts}
use Rattle.lx_words.proofs.Tests.{implied}

abbrev pub implies : (ℕ → Bool) → (ℕ → Bool) → ℕ → Bool
implies p q b = not (p b) || q b

abbrev pub always : ℕ → Bool
always b = true

-- a byte that passes one test passes another; all bytes below 128 are tried
pub byte_passes : (p q : ℕ → Bool) (b : ℕ) → agree_below (implies p q) always 128 ≡ true → b < 128 → p b ≡ true → q b ≡ true
byte_passes p q b all lt h = implied (p b) (q b) (agree_below_at (implies p q) always 128 b all lt) h

-- bytes that pass one test pass another
pub all_pass : (p q : ℕ → Bool) (bs : List ℕ) → ((b : ℕ) → p b ≡ true → q b ≡ true) → list_all p bs ≡ true → list_all q bs ≡ true
all_pass p q [] f h = refl
all_pass p q (b ∷ bs) f h =
    let both = and_parts (p b) (list_all p bs) h in
    ap (λ v. v && list_all q bs) (f b both.0) ∙ all_pass p q bs f both.1
