-- A printed number says the number.
use Rattle.std.proofs.Common.{◌≡◌, ℕ, suc, ◌^◌, ◌<◌, ◌≤◌, List, [], ◌∷◌, length, Bool, true, false, not, ◌&&◌, refl, ap, ◌∙◌, arith, Some, ℤ, pos, negsuc, min}
use Rattle.std.specs.Prelude.{◌==◌, nat_lt, nat_le}
use Rattle.std.specs.Char.{IsAsciiDigit}
use Rattle.std.specs.List.{list_all}
use Rattle.std.proofs.lemmas.Bool.{and_parts, leb-true, lt-ltb, not-true}
use Rattle.std.proofs.lemmas.List.Elements.{recursion_from_All}
use Rattle.lx_words.specs.declared.token.TokenRule.TheVariants.{Ir}
use Rattle.lx_words.specs.declared.token.Lexeme.TheVariants.{Token}
use Rattle.lx_words.specs.declared.token.TokenKind.TheVariants as kinds
use Rattle.lx_words.specs.Lexemes.{is_space, is_digit, is_line_byte, lexeme_of, lexeme_behind, other_lexeme}
use Rattle.lx_words.specs.Text.{decimal_text, signed_text, decimal_value}
use Rattle.lx_words.specs.TextLaws.{NumberTexts}
use Rattle.lx_words.proofs.Digits.{all_digits}
use Rattle.lx_ir_tokens.specs.declared.token.Kind.TheVariants as kind
use Rattle.lx_ir_tokens.specs.Said.{has_minus, value_of_number}
use Rattle.lx_ir_terms.specs.Types.{count_in, greatest_count}
use Rattle.lx_ir_terms.specs.Grammar.{Picks}
use Rattle.lx_ir_complete.specs.Printed.{Prints}
use Rattle.lx_ir_complete.proofs.Bytes.{byte_passes, all_pass}
use Rattle.lx_ir_complete.proofs.Joining.{token}

-- Digits.

digit_below : (b : ℕ) → is_digit b ≡ true → b < 128
digit_below b h = let le : b ≤ 57 = leb-true b 57 ((and_parts (nat_le 48 b) (nat_le b 57) h).1) in omega arith

-- a digit begins a number
abbrev begins_number : ℕ → Bool
begins_number b = not (is_space b) && (not (b == 59) && (not (b == 37) && (not (b == 45) && is_line_byte b)))

pub record Digit (b : ℕ) : Type 0 where
  pub space : is_space b ≡ false
  pub comment : (b == 59) ≡ false
  pub local : (b == 37) ≡ false
  pub minus : (b == 45) ≡ false
  pub one_line : is_line_byte b ≡ true

pub digit : (b : ℕ) → is_digit b ≡ true → Digit b
digit b h =
    let all : begins_number b ≡ true = byte_passes is_digit begins_number b refl (digit_below b h) h in
    let one = and_parts (not (is_space b)) _ all in
    let two = and_parts (not (b == 59)) _ one.1 in
    let three = and_parts (not (b == 37)) _ two.1 in
    let four = and_parts (not (b == 45)) _ three.1 in
    record { space = not-true (is_space b) one.0; comment = not-true (b == 59) two.0; local = not-true (b == 37) three.0; minus = not-true (b == 45) four.0; one_line = four.1 }

-- Texts of numbers.

-- a text that is one number of this value
pub record IsNumberText (text : List ℕ) (z : ℤ) (minus : Bool) : Type 0 where
  pub is : lexeme_of Ir text ≡ Some (Token kinds.Number)
  pub value : value_of_number text ≡ Some z
  pub sign : has_minus text ≡ minus
  pub one_line : list_all is_line_byte text ≡ true

pub in_line : (bs : List ℕ) → list_all is_digit bs ≡ true → list_all is_line_byte bs ≡ true
in_line bs h = all_pass is_digit is_line_byte bs (λ b k. (digit b k).one_line) h

pub number_is : (b : ℕ) (bs : List ℕ) → list_all is_digit (b ∷ bs) ≡ true → lexeme_of Ir (b ∷ bs) ≡ Some (Token kinds.Number)
unfolding lexeme_behind
number_is b bs h =
    let both = and_parts (is_digit b) (list_all is_digit bs) h in
    let d = digit b both.0 in
    rw (d.space, d.comment, d.local, both.0, both.1) refl

minus_is : (b : ℕ) (bs : List ℕ) → list_all is_digit (b ∷ bs) ≡ true → lexeme_of Ir (45 ∷ b ∷ bs) ≡ Some (Token kinds.Number)
unfolding lexeme_behind other_lexeme
minus_is b bs h = rw h refl

value_is : (b : ℕ) (bs : List ℕ) (n : ℕ) → (b == 45) ≡ false → decimal_value (b ∷ bs) ≡ n → nat_lt n (2 ^ 127) ≡ true → value_of_number (b ∷ bs) ≡ Some (pos n)
unfolding value_of_number
value_is b bs n e v lt = rw (e, v, lt) refl

minus_value : (b : ℕ) (bs : List ℕ) (n : ℕ) → decimal_value (b ∷ bs) ≡ suc n → nat_lt n (2 ^ 127) ≡ true → value_of_number (45 ∷ b ∷ bs) ≡ Some (negsuc n)
unfolding value_of_number
minus_value b bs n v lt = rw (v, lt) refl

from_digits : (bs : List ℕ) (n : ℕ) → list_all is_digit bs ≡ true → 0 < length bs → decimal_value bs ≡ n → n < 2 ^ 127 → IsNumberText bs (pos n) false
from_digits [] n h some v lt = absurd (omega arith)
from_digits (b ∷ bs) n h some v lt =
    let d = digit b ((and_parts (is_digit b) (list_all is_digit bs) h).0) in
    record { is = number_is b bs h; value = value_is b bs n d.minus v (lt-ltb n (2 ^ 127) lt); sign = d.minus; one_line = in_line (b ∷ bs) h }

from_minus : (bs : List ℕ) (n : ℕ) → list_all is_digit bs ≡ true → 0 < length bs → decimal_value bs ≡ suc n → n < 2 ^ 127 → IsNumberText (45 ∷ bs) (negsuc n) true
from_minus [] n h some v lt = absurd (omega arith)
from_minus (b ∷ bs) n h some v lt =
    record { is = minus_is b bs h; value = minus_value b bs n v (lt-ltb n (2 ^ 127) lt); sign = refl; one_line = in_line (b ∷ bs) h }

-- the sign that a number is printed with
abbrev pub is_below_zero : ℤ → Bool
is_below_zero (pos n) = false
is_below_zero (negsuc n) = true

abbrev pub size : ℤ → ℕ
size (pos n) = n
size (negsuc n) = n

module _ (laws : NumberTexts) where
  digits : (n : ℕ) → list_all is_digit (decimal_text n) ≡ true
  digits n = all_digits (decimal_text n) (recursion_from_All IsAsciiDigit (decimal_text n) (laws.digits n))

  pub a_count : (n : ℕ) → n < 2 ^ 127 → IsNumberText (decimal_text n) (pos n) false
  a_count n lt = from_digits (decimal_text n) n (digits n) (laws.some n) (laws.read_decimal n (omega arith)) lt

  pub a_number : (z : ℤ) → size z < 2 ^ 127 → IsNumberText (signed_text z) z (is_below_zero z)
  a_number (pos n) lt = a_count n lt
  a_number (negsuc n) lt = from_minus (decimal_text (suc n)) n (digits (suc n)) (laws.some (suc n)) (laws.read_decimal (suc n) (omega arith)) lt

module _ {plain : Bool} {names : List (List ℕ)} (laws : NumberTexts) where
  -- A printed count is a token that says it.
  pub count : (n : ℕ) → n ≤ greatest_count → Prints plain names (decimal_text n) (Picks (λ t. count_in t.kind) n)
  count n le =
      let t = a_count laws n (omega arith) in
      let least : min n greatest_count ≡ n = omega arith in
      token kinds.Number (decimal_text n) t.is t.one_line refl refl
      (λ tok seen. (tok, ap count_in (seen.kind ∙ ap (λ v. kind.Number v (has_minus (decimal_text n))) t.value ∙ ap (kind.Number (Some (pos n))) t.sign) ∙ ap Some least, refl))
