-- A text in two at the first byte that fails.
use Rattle.std.proofs.Common.{◌≡◌, ℕ, suc, ◌+◌, ◌<◌, List, [], ◌∷◌, ◌++◌, length, take, drop, Bool, true, false, refl, sym, ap, ◌∙◌, arith, append_assoc}
use Rattle.std.specs.List.{list_all, prefix_len}
use Rattle.std.proofs.lemmas.List.{take-append-drop}
use Rattle.std.proofs.lemmas.Bool.{cond-true, cond-false}
use Rattle.lx_words.specs.Lexemes.{some_all}
use Rattle.lx_script.specs.Words.{HasWord, HasNoWord, is_blank, is_printable, feeds}

pub record Halves (p : ℕ → Bool) (text front back : List ℕ) : Type 0 where
  pub whole : text ≡ front ++ back
  pub passes : list_all p front ≡ true
  pub ends : prefix_len p back ≡ 0

passing : (p : ℕ → Bool) (x : ℕ) (xs : List ℕ) (v : Bool) → p x ≡ v → list_all p (take (prefix_len p xs) xs) ≡ true → list_all p (take (prefix_len p (x ∷ xs)) (x ∷ xs)) ≡ true
passing p x xs true e h = let k : prefix_len p (x ∷ xs) ≡ suc (prefix_len p xs) = cond-true (p x) _ _ e ∙ omega arith in rw (k, e) h
passing p x xs false e h = let k : prefix_len p (x ∷ xs) ≡ 0 = cond-false (p x) _ _ e in rw k refl

pub front_passes : (p : ℕ → Bool) (xs : List ℕ) → list_all p (take (prefix_len p xs) xs) ≡ true
front_passes p [] = refl
front_passes p (x ∷ xs) = passing p x xs (p x) refl (front_passes p xs)

ending : (p : ℕ → Bool) (x : ℕ) (xs : List ℕ) (v : Bool) → p x ≡ v → prefix_len p (drop (prefix_len p xs) xs) ≡ 0 → prefix_len p (drop (prefix_len p (x ∷ xs)) (x ∷ xs)) ≡ 0
ending p x xs true e h = let k : prefix_len p (x ∷ xs) ≡ suc (prefix_len p xs) = cond-true (p x) _ _ e ∙ omega arith in rw k h
ending p x xs false e h = let k : prefix_len p (x ∷ xs) ≡ 0 = cond-false (p x) _ _ e in rw k k

pub back_ends : (p : ℕ → Bool) (xs : List ℕ) → prefix_len p (drop (prefix_len p xs) xs) ≡ 0
back_ends p [] = refl
back_ends p (x ∷ xs) = ending p x xs (p x) refl (back_ends p xs)

pub halves : (p : ℕ → Bool) (text front back : List ℕ) (n : ℕ) → n ≡ prefix_len p text → front ≡ take n text → back ≡ drop n text → Halves p text front back
halves p text front back n e f b = record {
  whole = rw (f, b) (sym (take-append-drop n text));
  passes = rw (f, e) (front_passes p text);
  ends = rw (b, e) (back_ends p text);
}

pub a_word : (text blanks rest bytes after : List ℕ) (line row : ℕ) → Halves is_blank text blanks rest → Halves is_printable rest bytes after → 0 < length bytes → row ≡ line + feeds blanks → HasWord text line (record { bytes = bytes; line = row }) after
a_word text blanks rest bytes after line row b w some e = record {
  blanks = blanks;
  whole = b.whole ∙ ap (λ t. blanks ++ t) w.whole ∙ sym (append_assoc blanks bytes after);
  blank = b.passes;
  some = some;
  printable = w.passes;
  longest = w.ends;
  row = e;
}

empty_front : (xs ys zs : List ℕ) → length ys ≡ 0 → xs ≡ ys ++ zs → xs ≡ zs
empty_front xs [] zs n e = e
empty_front xs (y ∷ ys) zs n e = absurd (omega arith)

pub no_word : (text blanks rest bytes after : List ℕ) (line row : ℕ) → Halves is_blank text blanks rest → Halves is_printable rest bytes after → length bytes ≡ 0 → row ≡ line + feeds blanks → HasNoWord text line after row
no_word text blanks rest bytes after line row b w none e =
    let same : rest ≡ after = empty_front rest bytes after none w.whole in
    record {
      blanks = blanks;
      whole = b.whole ∙ ap (λ t. blanks ++ t) same;
      blank = b.passes;
      no_word = w.ends;
      no_blank = ap (prefix_len is_blank) (sym same) ∙ b.ends;
      counted = e;
    }

pub some_all_is : (p : ℕ → Bool) (xs : List ℕ) → 0 < length xs → some_all p xs ≡ list_all p xs
some_all_is p [] lt = absurd (omega arith)
some_all_is p (x ∷ xs) lt = refl

pub digits_pass : (p : ℕ → Bool) (xs : List ℕ) (n : ℕ) → n ≡ prefix_len p xs → list_all p (take n xs) ≡ true
digits_pass p xs n e = rw e (front_passes p xs)
