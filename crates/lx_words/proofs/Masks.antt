-- Numbers cut to a width by a mask.
use Rattle.std.proofs.Common.{◌≡◌, ℕ, ◌+◌, ◌-◌, bit_and, ap, ◌∙◌, arith}
use Rattle.std.proofs.lemmas.Nat.{and_mask}
use Rattle.lx_words.specs.declared.word.Width.{Width}
use Rattle.lx_words.specs.Width.{bit_count, modulus}
use Rattle.lx_words.specs.Word.{Word, word}

abbrev pub make_word : Width → ℕ → Word
make_word w n = record { width = w; bits = n }

mask_is : (m mask : ℕ) → mask + 1 ≡ m → mask ≡ m - 1
mask_is m mask e = omega arith

pub cut_by_mask : (w : Width) (n mask : ℕ) → mask + 1 ≡ modulus w → make_word w (bit_and n mask) ≡ word w n
cut_by_mask w n mask e = ap (make_word w) (ap (bit_and n) (mask_is (modulus w) mask e) ∙ and_mask n (bit_count w))
