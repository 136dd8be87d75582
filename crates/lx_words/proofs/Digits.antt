-- Texts of digits.
use Rattle.std.proofs.Common.{◌≡◌, ℕ, List, [], ◌∷◌, true, refl, arith}
use Rattle.std.specs.Prelude.{nat_le}
use Rattle.std.specs.Char.{IsAsciiDigit}
use Rattle.std.specs.List.{list_all, AllByRecursion}
use Rattle.std.proofs.lemmas.Bool.{and_from, le-leb}
use Rattle.lx_words.specs.Lexemes.{is_digit}

pub all_digits : (bs : List ℕ) → AllByRecursion IsAsciiDigit bs → list_all is_digit bs ≡ true
all_digits [] h = refl
all_digits (b ∷ bs) h =
    and_from (is_digit b) (list_all is_digit bs) (and_from (nat_le 48 b) (nat_le b 57) (le-leb 48 b (omega (arith, h.0))) (le-leb b 57 (omega (arith, h.0)))) (all_digits bs h.1)
