-- A text as words between blanks.
use Rattle.std.specs.Prelude.{◌≡◌, ℕ, ◌+◌, ◌<◌, List, [], ◌∷◌, ◌++◌, length, Bool, true, ◌||◌, ◌==◌, count_by}
use Rattle.std.specs.List.{list_all, prefix_len}
use Rattle.lx_words.specs.Lexemes.{is_within}

-- a space or a line feed
abbrev pub is_blank : ℕ → Bool
is_blank b = b == 32 || b == 10

-- no control byte, no space, and none from 128 on
abbrev pub is_printable : ℕ → Bool
is_printable b = is_within 33 126 b

abbrev pub feeds : List ℕ → ℕ
feeds bytes = count_by (λ b. b == 10) bytes

-- a word with its line
pub record Word : Type 0 where
  pub bytes : List ℕ
  pub line : ℕ

-- Blanks, and then this word, as long as it goes; the text goes on after it.
pub record HasWord (text : List ℕ) (line : ℕ) (word : Word) (after : List ℕ) : Type 0 where
  pub blanks : List ℕ
  pub whole : text ≡ blanks ++ word.bytes ++ after
  pub blank : list_all is_blank blanks ≡ true
  pub some : 0 < length word.bytes
  pub printable : list_all is_printable word.bytes ≡ true
  pub longest : prefix_len is_printable after ≡ 0
  pub row : word.line ≡ line + feeds blanks

-- These words, one after the other, and then the rest in its line.
abbrev pub Passes : List ℕ → ℕ → List Word → List ℕ → ℕ → Type 0
Passes text line [] rest row = (text ≡ rest) × (line ≡ row)
Passes text line (w ∷ ws) rest row = (after : List ℕ) × HasWord text line w after × Passes after w.line ws rest row

-- Blanks up to the end, which is that of the text or a byte that stands in no word.
pub record HasNoWord (text : List ℕ) (line : ℕ) (rest : List ℕ) (row : ℕ) : Type 0 where
  pub blanks : List ℕ
  pub whole : text ≡ blanks ++ rest
  pub blank : list_all is_blank blanks ≡ true
  pub no_word : prefix_len is_printable rest ≡ 0
  pub no_blank : prefix_len is_blank rest ≡ 0
  pub counted : row ≡ line + feeds blanks

-- The text is these words, and then this rest in its line.
abbrev pub AreWords : List ℕ → List Word → List ℕ → ℕ → Type 0
AreWords text words rest row = (after : List ℕ) × (line : ℕ) × Passes text 1 words after line × HasNoWord after line rest row
