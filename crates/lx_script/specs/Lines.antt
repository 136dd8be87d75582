-- A text as lines, and a line as words.
use Rattle.std.specs.Prelude.{ℕ, ◌+◌, List, [], ◌∷◌, length, take, filter, map, Bool, ◌||◌, ◌==◌, nat_lt, Option, None, is_some, if◌then◌else◌, slice_get}
use Rattle.std.specs.List.{prefix_len, slice_split}
use Rattle.lx_words.specs.Lexemes.{is_within}

-- what may stand in a text: a space, a printable byte, or a line feed
abbrev pub is_allowed : ℕ → Bool
is_allowed b = b == 10 || is_within 32 126 b

-- the text up to the first byte that may not stand in it, and that byte
abbrev pub front_of : List ℕ → List ℕ
front_of text = take (prefix_len is_allowed text) text

abbrev pub stop_of : List ℕ → Option ℕ
stop_of text = slice_get text (prefix_len is_allowed text)

-- A line: its number, its bytes, and the byte that cuts it off, where there is one.
pub record Line : Type 0 where
  pub row : ℕ
  pub text : List ℕ
  pub stop : Option ℕ

-- pieces as lines from a number on; the last one is cut off
abbrev pub numbered : ℕ → Option ℕ → List (List ℕ) → List Line
numbered row stop [] = []
numbered row stop (l ∷ []) = record { row = row; text = l; stop = stop } ∷ []
numbered row stop (l ∷ m ∷ ls) = record { row = row; text = l; stop = None } ∷ numbered (row + 1) stop (m ∷ ls)

-- the lines of a text, from a number on: what stands between line feeds
abbrev pub lines_from : ℕ → List ℕ → List Line
lines_from row text = numbered row (stop_of text) (slice_split (λ b. b == 10) (front_of text))

-- the words of a line: what stands between spaces
abbrev pub words_of : List ℕ → List (List ℕ)
words_of line = filter (λ w. nat_lt 0 (length w)) (slice_split (λ b. b == 32) line)

-- A statement: the number of its line, its words, and the byte that cuts it off, where there is one.
pub record Statement : Type 0 where
  pub row : ℕ
  pub words : List (List ℕ)
  pub stop : Option ℕ

-- a line that begins with `#` has no words
abbrev pub statement_text : List ℕ → List ℕ
statement_text [] = []
statement_text (b ∷ bs) = if b == 35 then [] else b ∷ bs

abbrev pub statement_of : Line → Statement
statement_of l = record { row = l.row; words = words_of (statement_text l.text); stop = l.stop }

-- a statement that is passed over has no word, and nothing cuts it off
abbrev pub says_something : Statement → Bool
says_something s = nat_lt 0 (length s.words) || is_some s.stop

-- the statements of a text, from a line number on
unfoldable pub statements_from : ℕ → List ℕ → List Statement
statements_from row text = filter says_something (map statement_of (lines_from row text))

-- the statements of a text
abbrev pub statements_of : List ℕ → List Statement
statements_of text = statements_from 1 text
