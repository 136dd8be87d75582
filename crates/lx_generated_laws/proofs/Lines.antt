-- The lines of a case, and the words of a line.
use Rattle.std.proofs.Common.{◌≡◌, ◌∙◌, ℕ, ◌+◌, Bool, List, [], ◌∷◌, ◌++◌, length, true, false, None, refl, sym, ap, arith}
use Rattle.std.specs.Prelude.{filter, nat_lt}
use Rattle.std.specs.List.{list_all, prefix_len, slice_split, onto_first}
use Rattle.std.proofs.lemmas.Bool.{cond-true, cond-false, and_parts, not-true}
use Rattle.std.proofs.lemmas.List.{take_at, drop_at}
use Rattle.std.proofs.lemmas.List.Splits.{slice_split-cons_no}
use Rattle.lx_words.specs.Lexemes.{is_within}
use Rattle.lx_script.specs.Lines.{Statement, statement_text, words_of, statements_from}
use Rattle.lx_script.specs.LineParts.{is_space, is_letter, said}
use Rattle.lx_script.proofs.Cutting.{ends_with_feed}

abbrev pub is_printed : ℕ → Bool
is_printed b = is_within 32 126 b

-- all of a front passes, and the byte behind it does not
prefix_is : (p : ℕ → Bool) (xs : List ℕ) (y : ℕ) (ys : List ℕ) → list_all p xs ≡ true → p y ≡ false → prefix_len p (xs ++ y ∷ ys) ≡ length xs
prefix_is p [] y ys h e = cond-false (p y) _ _ e
prefix_is p (x ∷ xs) y ys h e =
    let both = and_parts (p x) (list_all p xs) h in
    cond-true (p x) _ _ both.0 ∙ omega (arith, prefix_is p xs y ys both.1 e)

abbrev pub statement : ℕ → List (List ℕ) → Statement
statement row words = record { row = row; words = words; stop = None }

-- the statement of a line before the rest of a text
pub line_first : (row : ℕ) (line rest : List ℕ) → list_all is_printed line ≡ true → statements_from row (line ++ 10 ∷ rest) ≡ said (statement row (words_of (statement_text line))) ++ statements_from (row + 1) rest
line_first row line rest h =
    ends_with_feed row (length line) (line ++ 10 ∷ rest) line (10 ∷ rest) rest
    (sym (prefix_is is_printed line 10 rest h refl)) (sym (take_at line (10 ∷ rest) (length line) refl)) (sym (drop_at line (10 ∷ rest) (length line) refl)) refl

split_word : (w rest : List ℕ) → list_all is_letter w ≡ true → slice_split is_space (w ++ 32 ∷ rest) ≡ w ∷ slice_split is_space rest
split_word [] rest h = refl
split_word (b ∷ w) rest h =
    let both = and_parts (is_letter b) (list_all is_letter w) h in
    slice_split-cons_no is_space b (w ++ 32 ∷ rest) (not-true (is_space b) both.0) ∙ ap (onto_first b) (split_word w rest both.1)

-- the first word of a line
pub word_first : (w rest : List ℕ) → list_all is_letter w ≡ true → nat_lt 0 (length w) ≡ true → words_of (w ++ 32 ∷ rest) ≡ w ∷ words_of rest
word_first w rest h some = ap (filter (λ v. nat_lt 0 (length v))) (split_word w rest h) ∙ cond-true (nat_lt 0 (length w)) _ _ some
