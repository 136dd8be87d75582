-- The text of a number is that which the standard library writes.
use Rattle.std.proofs.Common.{◌≡◌, ℕ, suc, ◌+◌, ◌/◌, ◌%◌, ◌^◌, ◌<◌, ◌≤◌, true, false, [], ◌∷◌, ◌++◌, ℤ, pos, negsuc, refl, ap, ◌∙◌, arith, FitsSigned}
use Rattle.std.specs.Prelude.{nat_lt}
use Rattle.std.specs.Int.{w128}
use Rattle.std.specs.Fmt.{decimal, signed_decimal}
use Rattle.std.proofs.lemmas.Bool.Decides.{nat_tests}
use Rattle.std.proofs.lemmas.Fmt.{AppendsLastDigit, decimal_from_appends_wide, length-decimal-le_wide}
use Rattle.lx_words.specs.Text.{digit, digits_to, decimal_text, signed_text}

pub digits_to-last : (base k n : ℕ) → n < base → digits_to base (suc k) n ≡ digit n ∷ []
digits_to-last base k n h = let e : nat_lt n base ≡ true = grind (arith, nat_tests) in rw (e, digits_to) refl

pub digits_to-more : (base k n : ℕ) → base ≤ n → digits_to base (suc k) n ≡ digits_to base k (n / base) ++ digit (n % base) ∷ []
digits_to-more base k n h = let e : nat_lt n base ≡ false = grind (arith, nat_tests) in rw (e, digits_to) refl

digit_below_ten : (n : ℕ) → n < 10 → digit n ≡ 48 + n
digit_below_ten n h = let e : nat_lt n 10 ≡ true = grind (arith, nat_tests) in rw e refl

appends : AppendsLastDigit (digits_to 10)
appends = record {
  one = λ k n h. digits_to-last 10 k n h ∙ ap (λ d. d ∷ []) (digit_below_ten n h);
  more = λ k n h. digits_to-more 10 k n h ∙ ap (λ d. digits_to 10 k (n / 10) ++ d ∷ []) (digit_below_ten (n % 10) (omega arith));
}

pub decimal_text_is : (n : ℕ) → n < 10 ^ 39 → decimal_text n ≡ decimal n
decimal_text_is n h = decimal_from_appends_wide (digits_to 10) appends 39 n (omega arith) (length-decimal-le_wide 39 n (omega arith) h (omega arith))

pub signed_text_is : (z : ℤ) → FitsSigned w128 z → signed_text z ≡ signed_decimal z
signed_text_is (pos n) h = let fits = h.sfits in decimal_text_is n (omega arith)
signed_text_is (negsuc n) h = let fits = h.sfits in ap (λ ds. 45 ∷ ds) (decimal_text_is (suc n) (omega arith))
