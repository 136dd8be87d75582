-- The line of a call, and what its words say.
use Rattle.std.proofs.Common.{◌≡◌, ◌∙◌, ℕ, ◌+◌, ◌*◌, ◌^◌, ◌<◌, ◌≤◌, Bool, true, false, ◌&&◌, List, [], ◌∷◌, ◌++◌, length, Some, Ok, refl, sym, ap, arith, append_assoc}
use Rattle.std.specs.Prelude.{◌==◌, ◌%◌, All, nat_le, not, codes, pos, if◌then◌else◌}
use Rattle.std.specs.List.{list_all}
use Rattle.std.specs.Char.{IsAsciiDigit}
use Rattle.std.proofs.lemmas.Bool.{and_parts, and_from, lt-ltb, le-leb, leb-true}
use Rattle.std.proofs.lemmas.List.Elements.{All-head, All-tail}
use Rattle.std.proofs.lemmas.List.Folds.{list_all-append}
use Rattle.std.proofs.lemmas.Slice.Eq.{bytes_eq-Decides}
use Rattle.lx_words.specs.Lexemes.{is_digit}
use Rattle.lx_words.specs.Text.{decimal_text, decimal_value}
use Rattle.lx_words.specs.TextLaws.{NumberTexts}
use Rattle.lx_words.proofs.Lists.{heads, no_list, tails, all_from}
use Rattle.lx_words.proofs.Tests.{above_fails}
use Rattle.lx_generate.specs.Generated.{callee, call_line, number_words}
use Rattle.lx_script.specs.declared.case.CaseArg.TheVariants.{Number}
use Rattle.lx_script.specs.Lines.{words_of, statements_from}
use Rattle.lx_script.specs.LineParts.{is_letter, said}
use Rattle.lx_script.specs.Reading.{argument_at, fuel_at, has_hex_mark, symbol_at, symbol_in}
use Rattle.lx_generated_laws.proofs.Lines.{is_printed, statement, line_first, word_first}

-- Digits.

all_digits : (ds : List ℕ) → All IsAsciiDigit ds → list_all is_digit ds ≡ true
all_digits [] h = refl
all_digits (d ∷ ds) h =
    let digit = All-head IsAsciiDigit d ds h in
    and_from (is_digit d) (list_all is_digit ds) (and_from (nat_le 48 d) (nat_le d 57) (le-leb 48 d (omega (arith, digit))) (le-leb d 57 (omega (arith, digit)))) (all_digits ds (All-tail IsAsciiDigit d ds h))

pub digit_from : (d : ℕ) → is_digit d ≡ true → 48 ≤ d
digit_from d h = leb-true 48 d (and_parts (nat_le 48 d) (nat_le d 57) h).0

digit_to : (d : ℕ) → is_digit d ≡ true → d ≤ 57
digit_to d h = leb-true d 57 (and_parts (nat_le 48 d) (nat_le d 57) h).1

digit_printed : (d : ℕ) → is_digit d ≡ true → is_printed d ≡ true
digit_printed d h = and_from (nat_le 32 d) (nat_le d 126) (le-leb 32 d (omega (arith, digit_from d h))) (le-leb d 126 (omega (arith, digit_to d h)))

digit_letter : (d : ℕ) → is_digit d ≡ true → is_letter d ≡ true
digit_letter d h = ap not (above_fails d 32 (omega (arith, digit_from d h)))

-- digits are no hexadecimal number
no_mark : (ds : List ℕ) → list_all is_digit ds ≡ true → (v : Bool) → has_hex_mark ds ≡ v → v ≡ false
no_mark ds h false e = refl
no_mark [] h true e = sym e
no_mark (d ∷ []) h true e = no_list (tails ((bytes_eq-Decides (d ∷ []) (codes "0x")).0 e))
no_mark (d ∷ c ∷ ds) h true e =
    let same : c ≡ 120 = heads (tails ((bytes_eq-Decides (d ∷ c ∷ []) (codes "0x")).0 e)) in
    absurd (omega (arith, same, digit_to c (and_parts (is_digit c) (list_all is_digit ds) (and_parts (is_digit d) (is_digit c && list_all is_digit ds) h).1).0))

-- digits say their number
digits_said : (names : List (List ℕ)) (row : ℕ) (ds : List ℕ) (n : ℕ) → list_all is_digit ds ≡ true → 0 < length ds → decimal_value ds ≡ n → n < 2 ^ 64 → argument_at names row ds ≡ Ok (Number (pos n))
unfolding argument_at
digits_said names row [] n h some e less = absurd (omega (arith, some))
digits_said names row (d ∷ ds) n h some e less =
    let digit = (and_parts (is_digit d) (list_all is_digit ds) h).0 in
    let no_address : (d == 38) ≡ false = above_fails d 38 (omega (arith, digit_from d digit)) in
    let positive : (d == 45) ≡ false = above_fails d 45 (omega (arith, digit_from d digit)) in
    let no_hex : has_hex_mark (d ∷ ds) ≡ false = no_mark (d ∷ ds) h (has_hex_mark (d ∷ ds)) refl in
    rw (no_address, no_hex, positive, h, e, lt-ltb n (2 ^ 64) less) refl

-- What a call says.

-- the module and the function of a call
abbrev pub target_words : ℕ → List ℕ
target_words j = codes "gen:" ++ callee j

abbrev pub call_words : ℕ → ℕ → List (List ℕ)
call_words j k = codes "call" ∷ target_words j ∷ decimal_text k ∷ codes "fuel" ∷ codes "100" ∷ []

pub target_said : (row j : ℕ) → symbol_at (codes "gen" ∷ []) row (target_words j) (target_words j) ≡ Ok (Some 0, callee j)
unfolding callee symbol_at symbol_in
target_said row j = by (j % 10 == 9)
  where
    by : (b : Bool) → symbol_at (codes "gen" ∷ []) row (codes "gen:" ++ (if b then codes "stray" else codes "work")) (codes "gen:" ++ (if b then codes "stray" else codes "work")) ≡ Ok (Some 0, if b then codes "stray" else codes "work")
    by true = refl
    by false = refl

callee_passes : (p : ℕ → Bool) → list_all p (codes "stray") ≡ true → list_all p (codes "work") ≡ true → (j : ℕ) → list_all p (callee j) ≡ true
unfolding callee
callee_passes p s w j = by (j % 10 == 9)
  where
    by : (b : Bool) → list_all p (if b then codes "stray" else codes "work") ≡ true
    by true = s
    by false = w

pub fuel_said : (row : ℕ) → fuel_at row (codes "100") ≡ Ok 100
unfolding fuel_at
fuel_said row = refl

module _ (texts : NumberTexts) where
  digits : (k : ℕ) → list_all is_digit (decimal_text k) ≡ true
  digits k = all_digits (decimal_text k) (texts.digits k)

  pub argument_said : (names : List (List ℕ)) (row k : ℕ) → k < 2 ^ 64 → argument_at names row (decimal_text k) ≡ Ok (Number (pos k))
  argument_said names row k less = digits_said names row (decimal_text k) k (digits k) (texts.some k) (texts.read_decimal k (omega (arith, less))) less

  -- Its line.

  -- the bytes of its line
  abbrev line_of : ℕ → ℕ → List ℕ
  line_of j k = codes "call" ++ 32 ∷ (target_words j ++ 32 ∷ (decimal_text k ++ 32 ∷ codes "fuel 100"))

  line_said : (j k : ℕ) → words_of (line_of j k) ≡ call_words j k
  line_said j k =
      let behind : List ℕ = decimal_text k ++ 32 ∷ codes "fuel 100" in
      let target : words_of (target_words j ++ 32 ∷ behind) ≡ target_words j ∷ words_of behind = word_first (target_words j) behind (callee_passes is_letter refl refl j) (lt-ltb 0 (length (target_words j)) (omega arith)) in
      let number : words_of behind ≡ decimal_text k ∷ words_of (codes "fuel 100") = word_first (decimal_text k) (codes "fuel 100") (all_from is_digit is_letter digit_letter (decimal_text k) (digits k)) (lt-ltb 0 (length (decimal_text k)) (texts.some k)) in
      word_first (codes "call") (target_words j ++ 32 ∷ behind) refl refl ∙ ap (λ ws. codes "call" ∷ ws) (target ∙ ap (λ ws. target_words j ∷ ws) number)

  line_printed : (j k : ℕ) → list_all is_printed (line_of j k) ≡ true
  line_printed j k =
      let behind : List ℕ = decimal_text k ++ 32 ∷ codes "fuel 100" in
      let number : list_all is_printed behind ≡ true = list_all-append is_printed (decimal_text k) (32 ∷ codes "fuel 100") ∙ and_from _ true (all_from is_digit is_printed digit_printed (decimal_text k) (digits k)) refl in
      list_all-append is_printed (callee j) (32 ∷ behind) ∙ and_from _ _ (callee_passes is_printed refl refl j) number

  split_line : (c d rest : List ℕ) → (c ++ (32 ∷ d) ++ codes " fuel 100\n") ++ rest ≡ (c ++ 32 ∷ (d ++ codes " fuel 100")) ++ 10 ∷ rest
  split_line c d rest =
      append_assoc (c ++ 32 ∷ d) (codes " fuel 100\n") rest
      ∙ append_assoc c (32 ∷ d) (codes " fuel 100\n" ++ rest)
      ∙ ap (λ t. c ++ 32 ∷ t) (sym (append_assoc d (codes " fuel 100") (10 ∷ rest)))
      ∙ sym (append_assoc c (32 ∷ (d ++ codes " fuel 100")) (10 ∷ rest))

  line_is : (n j : ℕ) (rest : List ℕ) → call_line n j ++ rest ≡ line_of j (3 * j + n) ++ 10 ∷ rest
  unfolding number_words
  line_is n j rest = ap (λ t. codes "call gen:" ++ t) (split_line (callee j) (decimal_text (3 * j + n)) rest)

  -- the statement of a call before the rest of a text
  pub call_first : (n row j : ℕ) (rest : List ℕ) → statements_from row (call_line n j ++ rest) ≡ statement row (call_words j (3 * j + n)) ∷ statements_from (row + 1) rest
  call_first n row j rest =
      ap (statements_from row) (line_is n j rest)
      ∙ line_first row (line_of j (3 * j + n)) rest (line_printed j (3 * j + n))
      ∙ ap (λ ws. said (statement row ws) ++ statements_from (row + 1) rest) (line_said j (3 * j + n))
