-- What the text of a number tells of it.
use Rattle.std.specs.Prelude.{◌≡◌, ℕ, ℤ, ◌^◌, ◌<◌, All, FitsSigned, length}
use Rattle.std.specs.Int.{w128}
use Rattle.std.specs.Char.{IsAsciiDigit}
use Rattle.lx_words.specs.Text.{decimal_text, signed_text, hex_text, digits_to, decimal_value, hex_value}

-- Different numbers have different texts, and a decimal text is digits. Digits say the number that they are the text of.
pub record NumberTexts : Type 0 where
  pub decimal : (m n : ℕ) → m < 2 ^ 128 → n < 2 ^ 128 → decimal_text m ≡ decimal_text n → m ≡ n
  pub signed : (y z : ℤ) → FitsSigned w128 y → FitsSigned w128 z → signed_text y ≡ signed_text z → y ≡ z
  pub hexadecimal : (m n : ℕ) → m < 2 ^ 128 → n < 2 ^ 128 → hex_text m ≡ hex_text n → m ≡ n
  pub digits : (n : ℕ) → All IsAsciiDigit (decimal_text n)
  pub some : (n : ℕ) → 0 < length (decimal_text n)
  pub read_decimal : (n : ℕ) → n < 2 ^ 128 → decimal_value (decimal_text n) ≡ n
  pub read_hexadecimal : (n : ℕ) → n < 2 ^ 128 → hex_value (digits_to 16 32 n) ≡ n
