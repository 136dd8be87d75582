-- Shifts by more than a word has bits.
use Rattle.std.proofs.Common.{◌≡◌, ℕ, ◌-◌, ◌/◌, ◌^◌, ◌<◌, ◌≤◌, min, true, false, ◌⊎◌, inl, inr, pos, negsuc, refl, sym, ap, ◌∙◌, arith}
use Rattle.std.proofs.Math.Nat.{pow-le-pow_right, div-eq_of_lt}
use Rattle.std.proofs.lemmas.Int.{ints}
use Rattle.std.proofs.lemmas.Bool.{cases_lt}
use Rattle.std.proofs.lemmas.Bool.Decides.{nat_tests}
use Rattle.lx_words.specs.declared.word.Width.{Width}
use Rattle.lx_words.specs.declared.word.Width.TheVariants.{W1, W8, W16, W32, W64}
use Rattle.lx_words.specs.Width.{bit_count, modulus}
use Rattle.lx_words.specs.Word.{is_negative, shift_right, signed, word, word_of_int}
use Rattle.lx_words.proofs.Masks.{make_word}

pub below_half : (w : Width) (n k : ℕ) → n < modulus w → is_negative (make_word w n) ≡ true → signed (make_word w n) ≡ negsuc k → k < 2 ^ (bit_count w - 1)
below_half W1 n k h s e = grind (arith, ints, nat_tests)
below_half W8 n k h s e = grind (arith, ints, nat_tests)
below_half W16 n k h s e = grind (arith, ints, nat_tests)
below_half W32 n k h s e = grind (arith, ints, nat_tests)
below_half W64 n k h s e = grind (arith, ints, nat_tests)

pub at_most_half : (w : Width) (n : ℕ) → is_negative (make_word w n) ≡ false → n < 2 ^ (bit_count w - 1)
at_most_half W1 n s = grind (arith, nat_tests)
at_most_half W8 n s = grind (arith, nat_tests)
at_most_half W16 n s = grind (arith, nat_tests)
at_most_half W32 n s = grind (arith, nat_tests)
at_most_half W64 n s = grind (arith, nat_tests)

shifts_by : (n k by : ℕ) → 0 < n → n ≤ 64 → k < 2 ^ (n - 1) → (by < n) ⊎ (n ≤ by) → k / 2 ^ min by 63 ≡ k / 2 ^ min by n
shifts_by n k by some most small (inl h) =
    let here : min by n ≡ by = omega arith in
    let there : min by 63 ≡ by = omega arith in
    ap (λ j. k / 2 ^ j) (there ∙ sym here)
shifts_by n k by some most small (inr h) =
    let far : 2 ^ (n - 1) ≤ 2 ^ min by 63 = pow-le-pow_right {n = 2} (omega arith) {i = n - 1} {j = min by 63} (omega arith) in
    let farther : 2 ^ (n - 1) ≤ 2 ^ min by n = pow-le-pow_right {n = 2} (omega arith) {i = n - 1} {j = min by n} (omega arith) in
    div-eq_of_lt (omega arith) ∙ sym (div-eq_of_lt (omega arith))

-- no word has a bit at the place of its sign or above
shifts : (w : Width) (k by : ℕ) → k < 2 ^ (bit_count w - 1) → k / 2 ^ min by 63 ≡ k / 2 ^ min by (bit_count w)
shifts W1 k by h = shifts_by 1 k by (omega arith) (omega arith) h (cases_lt by 1)
shifts W8 k by h = shifts_by 8 k by (omega arith) (omega arith) h (cases_lt by 8)
shifts W16 k by h = shifts_by 16 k by (omega arith) (omega arith) h (cases_lt by 16)
shifts W32 k by h = shifts_by 32 k by (omega arith) (omega arith) h (cases_lt by 32)
shifts W64 k by h = shifts_by 64 k by (omega arith) (omega arith) h (cases_lt by 64)

pub shifts_negative : (w : Width) (n k by : ℕ) → n < modulus w → is_negative (make_word w n) ≡ true → signed (make_word w n) ≡ negsuc k
    → word_of_int w (negsuc (k / 2 ^ min by 63)) ≡ word_of_int w (shift_right (signed (make_word w n)) (min by (bit_count w)))
shifts_negative w n k by h s e =
    ap (λ j. word_of_int w (negsuc j)) (shifts w k by (below_half w n k h s e)) ∙ ap (λ z. word_of_int w (shift_right z (min by (bit_count w)))) (sym e)

positive : (w : Width) (n : ℕ) → is_negative (make_word w n) ≡ false → signed (make_word w n) ≡ pos n
positive w n s = rw (s, signed) refl

pub shifts_positive : (w : Width) (n by : ℕ) → is_negative (make_word w n) ≡ false
    → word w (n / 2 ^ min by 63) ≡ word_of_int w (shift_right (signed (make_word w n)) (min by (bit_count w)))
shifts_positive w n by s =
    ap (λ j. word_of_int w (pos j)) (shifts w n by (at_most_half w n s)) ∙ ap (λ z. word_of_int w (shift_right z (min by (bit_count w)))) (sym (positive w n s))
