-- Numbers with the same text are the same.
use Rattle.std.proofs.Common.{◌≡◌, ℕ, zero, suc, ◌+◌, ◌*◌, ◌/◌, ◌%◌, ◌^◌, ◌<◌, ◌≤◌, ◌⊎◌, inl, inr, List, [], ◌∷◌, ◌++◌, length, All, ℤ, pos, negsuc, sym, ap, ◌∙◌, subst, arith, FitsSigned, length-append}
use Rattle.std.specs.Int.{w128}
use Rattle.std.specs.Char.{IsAsciiDigit}
use Rattle.std.proofs.Math.Nat.{pow-suc, pow-zero}
use Rattle.std.proofs.lemmas.Nat.{div_below, div-add-mod', mod_below}
use Rattle.std.proofs.lemmas.Bool.{cases_lt}
use Rattle.std.proofs.lemmas.Bool.Decides.{nat_tests}
use Rattle.std.proofs.lemmas.List.{same_from_push, append_cancel_left}
use Rattle.std.proofs.lemmas.List.Elements.{All-append, All-nil, All-cons, All-head}
use Rattle.std.proofs.lemmas.List.Sums.{fold-append}
use Rattle.lx_words.specs.Text.{digit, digit_value, digits_to, number_from, decimal_text, signed_text}
use Rattle.lx_words.specs.TextLaws.{NumberTexts}
use Rattle.lx_words.proofs.NumberText.{digits_to-last, digits_to-more}

digit_injective : (m n : ℕ) → m < 16 → n < 16 → digit m ≡ digit n → m ≡ n
digit_injective m n a b e = grind (arith, nat_tests)

some_by : (base k n : ℕ) → (n < base) ⊎ (base ≤ n) → 0 < length (digits_to base (suc k) n)
some_by base k n (inl h) = rw (digits_to-last base k n h) (omega arith)
some_by base k n (inr h) = rw (digits_to-more base k n h) (omega (arith, length-append (digits_to base k (n / base)) (digit (n % base) ∷ [])))

some_digit : (base k n : ℕ) → 0 < length (digits_to base (suc k) n)
some_digit base k n = some_by base k n (cases_lt n base)

-- one digit is not several
one_or_more : (base k n d : ℕ) → base ≤ n → n < base ^ suc k → d ∷ [] ≡ digits_to base k (n / base) ++ digit (n % base) ∷ [] → ⊥
one_or_more base zero n d lo hi e = let first : base ^ 1 ≡ base ^ 0 * base = pow-suc base 0 in
    let none : base ^ 0 * base ≡ 1 * base = ap (λ p. p * base) (pow-zero base) in
    omega (arith, first, none)
one_or_more base (suc k) n d lo hi e =
    omega (arith, ap length e, length-append (digits_to base (suc k) (n / base)) (digit (n % base) ∷ []), some_digit base k (n / base))

fewer : (base k n : ℕ) → 0 < base → n < base ^ suc k → n / base < base ^ k
fewer base k n h hi = div_below n base (base ^ k) h (rw pow-suc at hi)

-- numbers with the same last digit and the same digits before it
joined : (base m n : ℕ) → 0 < base → base ≤ 16 → m / base ≡ n / base → digit (m % base) ≡ digit (n % base) → m ≡ n
joined base m n some small e f =
    let a : m % base < base = mod_below m base some in
    let b : n % base < base = mod_below n base some in
    let same : m % base ≡ n % base = digit_injective (m % base) (n % base) (omega arith) (omega arith) f in
    sym (div-add-mod' m base) ∙ ap (λ q. q * base + m % base) e ∙ ap (λ r. n / base * base + r) same ∙ div-add-mod' n base

abbrev Same : ℕ → ℕ → Type 0
Same base k = (m n : ℕ) → m < base ^ k → n < base ^ k → digits_to base k m ≡ digits_to base k n → m ≡ n

same_by : (base k m n : ℕ) → 0 < base → base ≤ 16 → Same base k → m < base ^ suc k → n < base ^ suc k → digits_to base (suc k) m ≡ digits_to base (suc k) n → (m < base) ⊎ (base ≤ m) → (n < base) ⊎ (base ≤ n) → m ≡ n
same_by base k m n p small next a b e (inl x) (inl y) =
    let same : digit m ∷ [] ≡ digit n ∷ [] = sym (digits_to-last base k m x) ∙ e ∙ digits_to-last base k n y in
    digit_injective m n (omega arith) (omega arith) (cc same)
same_by base k m n p small next a b e (inl x) (inr y) =
    absurd (one_or_more base k n (digit m) y b (sym (digits_to-last base k m x) ∙ e ∙ digits_to-more base k n y))
same_by base k m n p small next a b e (inr x) (inl y) =
    absurd (one_or_more base k m (digit n) x a (sym (digits_to-last base k n y) ∙ sym e ∙ digits_to-more base k m x))
same_by base k m n p small next a b e (inr x) (inr y) =
    let both = same_from_push (digits_to base k (m / base)) (digits_to base k (n / base)) (digit (m % base)) (digit (n % base)) (sym (digits_to-more base k m x) ∙ e ∙ digits_to-more base k n y) in
    joined base m n p small (next (m / base) (n / base) (fewer base k m p a) (fewer base k n p b) both.0) both.1

digits_to-injective : (base k : ℕ) → 0 < base → base ≤ 16 → Same base k
digits_to-injective base zero p small m n a b e = omega (arith, pow-zero base)
digits_to-injective base (suc k) p small m n a b e =
    same_by base k m n p small (digits_to-injective base k p small) a b e (cases_lt m base) (cases_lt n base)

IsAsciiDigit-digit : (n : ℕ) → n < 10 → IsAsciiDigit (digit n)
IsAsciiDigit-digit n h = grind (arith, nat_tests)

only_digit : (d : ℕ) → IsAsciiDigit d → All IsAsciiDigit (d ∷ [])
only_digit d h = All-cons IsAsciiDigit d [] h (All-nil IsAsciiDigit)

digits_by : (k n : ℕ) → All IsAsciiDigit (digits_to 10 k (n / 10)) → (n < 10) ⊎ (10 ≤ n) → All IsAsciiDigit (digits_to 10 (suc k) n)
digits_by k n more (inl h) = rw (digits_to-last 10 k n h) (only_digit (digit n) (IsAsciiDigit-digit n h))
digits_by k n more (inr h) =
    rw (digits_to-more 10 k n h) (All-append IsAsciiDigit (digits_to 10 k (n / 10)) (digit (n % 10) ∷ []) more (only_digit (digit (n % 10)) (IsAsciiDigit-digit (n % 10) (omega arith))))

decimal_digits : (k n : ℕ) → All IsAsciiDigit (digits_to 10 k n)
decimal_digits zero n = All-nil IsAsciiDigit
decimal_digits (suc k) n = digits_by k n (decimal_digits k (n / 10)) (cases_lt n 10)

no_sign : (ds : List ℕ) → All IsAsciiDigit (45 ∷ ds) → ⊥
no_sign ds h = let sign = All-head IsAsciiDigit 45 ds h in omega (arith, sign)

digit-value : (n : ℕ) → n < 16 → digit_value (digit n) ≡ n
digit-value n h = grind (arith, nat_tests)

read_by : (base k n : ℕ) → 0 < base → base ≤ 16 → (n / base < base ^ k → number_from base 0 (digits_to base k (n / base)) ≡ n / base) → n < base ^ suc k → (n < base) ⊎ (base ≤ n) → number_from base 0 (digits_to base (suc k) n) ≡ n
read_by base k n some small front h (inl lt) = ap (number_from base 0) (digits_to-last base k n lt) ∙ omega (arith, digit-value n (omega arith))
read_by base k n some small front h (inr ge) =
    let last : n % base < base = mod_below n base some in
    let value : digit_value (digit (n % base)) ≡ n % base = digit-value (n % base) (omega arith) in
    let quotient = front (fewer base k n some h) in
    ap (number_from base 0) (digits_to-more base k n ge)
    ∙ fold-append (λ (m d : ℕ). m * base + digit_value d) 0 (digits_to base k (n / base)) (digit (n % base) ∷ [])
    ∙ ap (λ q. q * base + digit_value (digit (n % base))) quotient
    ∙ ap (λ r. n / base * base + r) value
    ∙ div-add-mod' n base

digits_to-read : (base k n : ℕ) → 0 < base → base ≤ 16 → n < base ^ k → number_from base 0 (digits_to base k n) ≡ n
digits_to-read base zero n some small h = omega (arith, pow-zero base)
digits_to-read base (suc k) n some small h = read_by base k n some small (λ lt. digits_to-read base k (n / base) some small lt) h (cases_lt n base)

decimal_text-injective : (m n : ℕ) → m < 2 ^ 128 → n < 2 ^ 128 → decimal_text m ≡ decimal_text n → m ≡ n
decimal_text-injective m n a b = digits_to-injective 10 39 (omega arith) (omega arith) m n (omega arith) (omega arith)

signed_text-injective : (y z : ℤ) → FitsSigned w128 y → FitsSigned w128 z → signed_text y ≡ signed_text z → y ≡ z
signed_text-injective (pos m) (pos n) f g e = let a = f.sfits in let b = g.sfits in ap pos (decimal_text-injective m n (omega arith) (omega arith) e)
signed_text-injective (pos m) (negsuc n) f g e = absurd (no_sign _ (subst (All IsAsciiDigit) e (decimal_digits 39 m)))
signed_text-injective (negsuc m) (pos n) f g e = absurd (no_sign _ (subst (All IsAsciiDigit) (sym e) (decimal_digits 39 n)))
signed_text-injective (negsuc m) (negsuc n) f g e =
    let a = f.sfits in
    let b = g.sfits in
    let same : suc m ≡ suc n = decimal_text-injective (suc m) (suc n) (omega arith) (omega arith) (append_cancel_left (45 ∷ []) _ _ e) in
    ap negsuc (omega arith)

pub number_texts : NumberTexts
number_texts = record {
  decimal = decimal_text-injective;
  signed = signed_text-injective;
  hexadecimal = λ m n a b e. digits_to-injective 16 32 (omega arith) (omega arith) m n (omega arith) (omega arith) (append_cancel_left (48 ∷ 120 ∷ []) _ _ e);
  digits = decimal_digits 39;
  some = some_digit 10 38;
  read_decimal = λ n h. digits_to-read 10 39 n (omega arith) (omega arith) (omega arith);
  read_hexadecimal = λ n h. digits_to-read 16 32 n (omega arith) (omega arith) (omega arith);
}
