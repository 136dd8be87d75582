-- Texts that say a part of the grammar.
use Rattle.std.specs.Prelude.{◌≡◌, ℕ, List, [], ◌∷◌, ◌++◌, Bool, true, false, not, slice_get, unwrap_or}
use Rattle.std.specs.List.{AllZip, list_all}
use Rattle.lx_words.specs.Lexemes.{is_line_byte}
use Rattle.lx_words.specs.Cuts.{Piece}
use Rattle.lx_ir.specs.Lawful.{is_own_name}
use Rattle.lx_ir_tokens.specs.declared.token.Tok.{Tok}
use Rattle.lx_ir_tokens.specs.declared.token.Kind.{Kind}
use Rattle.lx_ir_tokens.specs.declared.token.Kind.TheVariants as kinds
use Rattle.lx_ir_tokens.specs.Lines.{begins_silence}
use Rattle.lx_ir_tokens.specs.Said.{kind_of, said}
use Rattle.lx_ir_tokens.specs.Reading.{StandsFor}
use Rattle.lx_ir_terms.specs.Context.{Context}
use Rattle.lx_ir_terms.specs.Grammar.{Part}
use Rattle.lx_ir_constants.specs.Misplaced.{is_misplaced}
use Rattle.lx_ir_complete.specs.Pieces.{text_of, is_apart, AreLaid, Lex, lexes}

-- a token as the grammar sees it, with the number of its name in this table
pub record IsSeen (names : List (List ℕ)) (l : Lex) (tok : Tok) : Type 0 where
  pub kind : tok.kind ≡ kind_of l.kind l.bytes
  pub name : StandsFor names tok.name (said l.kind l.bytes)

-- a line that begins with this token is not passed over
abbrev pub is_loud : Lex → Bool
is_loud l = not (begins_silence l.kind l.bytes)

-- a name behind `@` is no image's own
abbrev pub IsForeign : List (List ℕ) → Kind → ℕ → Type 0
IsForeign names kinds.Global name = is_own_name (unwrap_or (slice_get names name) []) ≡ false
IsForeign names kind name = Unit {0}

-- This token before those has no name of an image's own, where that is asked, and is no constant `getelementptr` with an index that
-- names no part, whatever is known of the types.
pub record IsCalm (plain : Bool) (names : List (List ℕ)) (t : Tok) (ts : List Tok) : Type 0 where
  pub foreign : plain ≡ true → IsForeign names t.kind t.name
  pub placed : (context : Context) → is_misplaced context (t ∷ ts) ≡ false

-- each token before those behind it
abbrev pub AreCalm : Bool → List (List ℕ) → List Tok → Type 0
AreCalm plain names [] = Unit {0}
AreCalm plain names (t ∷ ts) = IsCalm plain names t ts × AreCalm plain names ts

-- A text in one line that falls into lexemes, as long as what follows does not lengthen it, and whose tokens are this part of the
-- grammar, by whatever numbers the names have in the table, and are calm before others that are. Where it is plain, no name in it is an
-- image's own.
pub record Prints (plain : Bool) (names : List (List ℕ)) (text : List ℕ) (part : Part) : Type 0 where
  pub pieces : List Piece
  pub whole : text_of pieces ≡ text
  pub laid : (rest : List ℕ) → is_apart rest ≡ true → AreLaid pieces rest
  pub one_line : list_all is_line_byte text ≡ true
  pub loud : list_all is_loud (lexes pieces) ≡ true
  pub says : (toks : List Tok) → AllZip (IsSeen names) (lexes pieces) toks → part toks
  pub calm : (toks more : List Tok) → AllZip (IsSeen names) (lexes pieces) toks → AreCalm plain names more → AreCalm plain names (toks ++ more)
