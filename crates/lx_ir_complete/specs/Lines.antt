-- Texts of lines, none of which is passed over.
use Rattle.std.specs.Prelude.{◌≡◌, ℕ, List, [], ◌∷◌, ◌++◌, Bool, true, false, ◌||◌, flat_map}
use Rattle.std.specs.List.{AllZip, AllByRecursion, list_all}
use Rattle.lx_words.specs.Lexemes.{is_line_byte}
use Rattle.lx_words.specs.Cuts.{Piece}
use Rattle.lx_ir_tokens.specs.declared.token.Tok.{Tok}
use Rattle.lx_ir_tokens.specs.Lines.{is_mark}
use Rattle.lx_ir_terms.specs.Grammar.{Part}
use Rattle.lx_ir_complete.specs.Pieces.{text_of, AreLaid, Lex, lexes}
use Rattle.lx_ir_complete.specs.Printed.{IsSeen, is_loud, AreCalm}

-- the bytes of a line
abbrev pub line_of : List Piece → List ℕ
line_of ps = text_of ps ++ 10 ∷ []

-- the first of these tokens is `:`
abbrev pub colon_first : List Lex → Bool
colon_first [] = false
colon_first (l ∷ ls) = is_mark 58 l.kind l.bytes

-- a line with these tokens is not passed over
abbrev pub is_kept : List Lex → Bool
is_kept [] = true
is_kept (l ∷ ls) = is_loud l || colon_first ls

-- pieces that stand in one line, which is not passed over
pub record IsLine (ps : List Piece) : Type 0 where
  pub laid : (more : List ℕ) → AreLaid ps (10 ∷ more)
  pub one_line : list_all is_line_byte (text_of ps) ≡ true
  pub kept : is_kept (lexes ps) ≡ true

-- A text of lines whose tokens are this part of the grammar, by whatever numbers the names have in the table, and are calm before others
-- that are.
pub record PrintsLines (plain : Bool) (names : List (List ℕ)) (text : List ℕ) (part : Part) : Type 0 where
  pub lines : List (List Piece)
  pub whole : flat_map line_of lines ≡ text
  pub each : AllByRecursion IsLine lines
  pub says : (toks : List Tok) → AllZip (IsSeen names) (flat_map lexes lines) toks → part toks
  pub calm : (toks more : List Tok) → AllZip (IsSeen names) (flat_map lexes lines) toks → AreCalm plain names more → AreCalm plain names (toks ++ more)
