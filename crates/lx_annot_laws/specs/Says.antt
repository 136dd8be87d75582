-- Texts that say a part of the grammar, and parts that tokens have said.
use Rattle.std.specs.Prelude.{◌≡◌, ℕ, List, [], ◌∷◌, ◌++◌, Bool, true, false, not, ◌&&◌, ◌||◌, ◌==◌, Some}
use Rattle.lx_words.specs.declared.token.TokenRule.TheVariants as rules
use Rattle.lx_words.specs.declared.token.TokenKind.{TokenKind}
use Rattle.lx_words.specs.declared.token.TokenKind.TheVariants as kinds
use Rattle.lx_words.specs.declared.token.Lexeme.{Lexeme}
use Rattle.lx_words.specs.declared.token.Lexeme.TheVariants as lexemes
use Rattle.lx_words.specs.Lexemes.{is_word_byte, is_name_byte, is_nil, lexeme_of}
use Rattle.lx_words.specs.Cuts.{Piece}
use Rattle.lx_annot_expressions.specs.Tokens.{Tok}
use Rattle.lx_annot_expressions.specs.Grammar.{Part}

-- What follows a lexeme.

-- a byte that lengthens no word, name or number before it
abbrev pub ends_word_byte : ℕ → Bool
ends_word_byte b = not (is_name_byte b) && not (b == 34)

-- a byte that makes a longer mark of one before it: `= < > & |`
abbrev pub is_second_byte : ℕ → Bool
is_second_byte b = b == 61 || b == 60 || b == 62 || b == 38 || b == 124

-- a text that lengthens no word, name or number before it
abbrev pub ends_word : List ℕ → Bool
ends_word [] = true
ends_word (b ∷ bs) = ends_word_byte b

-- a text that lengthens no mark before it
abbrev pub ends_mark : List ℕ → Bool
ends_mark [] = true
ends_mark (b ∷ bs) = not (is_second_byte b)

-- a text that lengthens nothing before it
abbrev pub is_apart : List ℕ → Bool
is_apart rest = ends_word rest && ends_mark rest

-- the first byte of an expression's text: `(`, a digit, or a word's
abbrev pub is_opening : List ℕ → Bool
is_opening [] = false
is_opening (b ∷ bs) = b == 40 || is_word_byte b

-- a byte that a second one can make a longer mark: `! < > & |`
abbrev pub is_open_byte : ℕ → Bool
is_open_byte b = b == 33 || b == 60 || b == 62 || b == 38 || b == 124

-- a mark that no text lengthens
abbrev pub is_closed_mark : List ℕ → Bool
is_closed_mark [] = false
is_closed_mark (b ∷ bs) = not (is_nil bs) || not (is_open_byte b)

-- the lexeme of these bytes ends where this text begins; no comment is printed
abbrev pub ends_before : Lexeme → List ℕ → List ℕ → Bool
ends_before lexemes.Space bytes rest = true
ends_before lexemes.Comment bytes rest = false
ends_before (lexemes.Token kinds.Mark) bytes rest = is_closed_mark bytes || ends_mark rest
ends_before (lexemes.Token kind) bytes rest = ends_word rest

-- Pieces.

-- the text of pieces
abbrev pub text_of : List Piece → List ℕ
text_of [] = []
text_of (p ∷ ps) = p.bytes ++ text_of ps

-- Each piece is a lexeme, and ends where the next begins; a rest stands behind the last.
abbrev pub AreLaid : List Piece → List ℕ → Type 0
AreLaid [] rest = Unit {0}
AreLaid (p ∷ ps) rest = (lexeme_of rules.Interface p.bytes ≡ Some p.lexeme) × (ends_before p.lexeme p.bytes (text_of ps ++ rest) ≡ true) × AreLaid ps rest

-- a token, as the grammar sees it
abbrev pub tok : TokenKind → List ℕ → Tok
tok kind bytes = record { kind = kind; bytes = bytes }

-- the token that a lexeme is
abbrev pub tok_in : Lexeme → List ℕ → List Tok
tok_in lexemes.Space bytes = []
tok_in lexemes.Comment bytes = []
tok_in (lexemes.Token kind) bytes = tok kind bytes ∷ []

-- the tokens among pieces
abbrev pub toks : List Piece → List Tok
toks [] = []
toks (p ∷ ps) = tok_in p.lexeme p.bytes ++ toks ps

-- A text that falls into lexemes, as long as what follows does not lengthen it, and whose tokens are this part of the grammar.
pub record Says (text : List ℕ) (part : Part) : Type 0 where
  pub pieces : List Piece
  pub whole : text_of pieces ≡ text
  pub laid : (rest : List ℕ) → is_apart rest ≡ true → AreLaid pieces rest
  pub is : part (toks pieces)

-- What was read.

-- the token is what its bytes are
abbrev pub IsLexed : Tok → Type 0
IsLexed t = lexeme_of rules.Interface t.bytes ≡ Some (lexemes.Token t.kind)

-- the same of each of these tokens
abbrev pub AreLexed : List Tok → Type 0
AreLexed [] = Unit {0}
AreLexed (t ∷ ts) = IsLexed t × AreLexed ts

-- these bytes are a word
abbrev pub IsWord : List ℕ → Type 0
IsWord name = lexeme_of rules.Interface name ≡ Some (lexemes.Token kinds.Word)

-- some tokens are this part of the grammar
abbrev pub Told : Part → Type 0
Told part = (ts : List Tok) × AreLexed ts × part ts
