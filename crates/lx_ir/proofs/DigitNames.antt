-- Numbers in decimal are names.
use Rattle.std.proofs.Common.{◌≡◌, ℕ, ◌≤◌, true, not, ◌&&◌, ap, arith, leb-true, List, [], ◌∷◌, refl}
use Rattle.std.specs.Prelude.{nat_eq, nat_lt, nat_le}
use Rattle.std.proofs.lemmas.Bool.{and_from, le-leb}
use Rattle.lx_words.proofs.Tests.{below_fails, less_true, above_fails, first_of, second_of}
use Rattle.lx_ir.specs.Lawful.{stands_in_name, is_digit}
use Rattle.std.specs.List.{list_all, AllByRecursion}
use Rattle.std.specs.Char.{IsAsciiDigit}
use Rattle.std.proofs.lemmas.List.Elements.{recursion_from_All}
use Rattle.lx_words.specs.Text.{decimal_text}
use Rattle.lx_words.proofs.Injective.{number_texts}

pub digit_stands : (b : ℕ) → is_digit b ≡ true → stands_in_name b ≡ true
digit_stands b h =
    let low : 48 ≤ b = leb-true 48 b (first_of (nat_le 48 b) (nat_le b 57) h) in
    let high : b ≤ 57 = leb-true b 57 (second_of (nat_le 48 b) (nat_le b 57) h) in
    and_from (nat_le 32 b && nat_lt b 127 && not (nat_eq b 34)) (not (nat_eq b 92))
    (and_from (nat_le 32 b && nat_lt b 127) (not (nat_eq b 34))
    (and_from (nat_le 32 b) (nat_lt b 127) (le-leb 32 b (omega (arith, low))) (less_true b 127 (omega (arith, high))))
    (ap not (above_fails b 34 (omega (arith, low)))))
    (ap not (below_fails b 92 (omega (arith, high))))

pub all_stand : (bs : List ℕ) → list_all is_digit bs ≡ true → list_all stands_in_name bs ≡ true
all_stand [] h = refl
all_stand (b ∷ bs) h = and_from (stands_in_name b) (list_all stands_in_name bs) (digit_stands b (first_of (is_digit b) (list_all is_digit bs) h)) (all_stand bs (second_of (is_digit b) (list_all is_digit bs) h))

pub all_digits : (bs : List ℕ) → AllByRecursion IsAsciiDigit bs → list_all is_digit bs ≡ true
all_digits [] h = refl
all_digits (b ∷ bs) h =
    and_from (is_digit b) (list_all is_digit bs) (and_from (nat_le 48 b) (nat_le b 57) (le-leb 48 b (omega (arith, h.0))) (le-leb b 57 (omega (arith, h.0)))) (all_digits bs h.1)

pub decimal_digits : (n : ℕ) → list_all is_digit (decimal_text n) ≡ true
decimal_digits n = all_digits (decimal_text n) (recursion_from_All IsAsciiDigit (decimal_text n) (number_texts.digits n))
