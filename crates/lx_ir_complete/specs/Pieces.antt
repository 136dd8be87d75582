-- Texts that fall into lexemes, each of which ends where it was written to end.
use Rattle.std.specs.Prelude.{◌≡◌, ℕ, List, [], ◌∷◌, ◌++◌, Bool, true, false, not, ◌&&◌, ◌||◌, ◌==◌, Some}
use Rattle.lx_words.specs.declared.token.TokenRule.TheVariants.{Ir}
use Rattle.lx_words.specs.declared.token.TokenKind.{TokenKind}
use Rattle.lx_words.specs.declared.token.TokenKind.TheVariants.{Mark}
use Rattle.lx_words.specs.declared.token.Lexeme.{Lexeme}
use Rattle.lx_words.specs.declared.token.Lexeme.TheVariants.{Space, Comment, Token}
use Rattle.lx_words.specs.Lexemes.{is_name_byte, lexeme_of}
use Rattle.lx_words.specs.Cuts.{Piece}
use Rattle.lx_ir_tokens.specs.declared.token.Mark.{Mark as IrMark}
use Rattle.lx_ir_tokens.specs.declared.token.Mark.TheVariants as mark

-- a byte that lengthens no word, name or number before it
abbrev pub ends_word : ℕ → Bool
ends_word b = not (is_name_byte b) && not (b == 34)

-- a text that lengthens no word, name or number before it
abbrev pub is_apart : List ℕ → Bool
is_apart [] = true
is_apart (b ∷ bs) = ends_word b

-- a space and a mark are one byte, whatever follows
abbrev pub is_closed : Lexeme → Bool
is_closed Space = true
is_closed (Token Mark) = true
is_closed _ = false

-- a comment goes on up to the end of its line
abbrev pub is_comment : Lexeme → Bool
is_comment Comment = true
is_comment _ = false

-- the lexeme ends where this text begins
abbrev pub ends_before : Lexeme → List ℕ → Bool
ends_before lexeme rest = is_closed lexeme || not (is_comment lexeme) && is_apart rest

-- the text of pieces
abbrev pub text_of : List Piece → List ℕ
text_of [] = []
text_of (p ∷ ps) = p.bytes ++ text_of ps

-- Each piece is a lexeme, and ends where the next begins; a rest stands behind the last.
abbrev pub AreLaid : List Piece → List ℕ → Type 0
AreLaid [] rest = Unit {0}
AreLaid (p ∷ ps) rest = (lexeme_of Ir p.bytes ≡ Some p.lexeme) × (ends_before p.lexeme (text_of ps ++ rest) ≡ true) × AreLaid ps rest

-- a token apart from where it stands
pub record Lex : Type 0 where
  pub kind : TokenKind
  pub bytes : List ℕ

abbrev pub lex : TokenKind → List ℕ → Lex
lex kind bytes = record { kind = kind; bytes = bytes }

-- the token that a lexeme is
abbrev pub lex_of : Lexeme → List ℕ → List Lex
lex_of Space bytes = []
lex_of Comment bytes = []
lex_of (Token kind) bytes = lex kind bytes ∷ []

-- the tokens among pieces
abbrev pub lexes : List Piece → List Lex
lexes [] = []
lexes (p ∷ ps) = lex_of p.lexeme p.bytes ++ lexes ps

-- the byte of a mark
abbrev pub mark_byte : IrMark → ℕ
mark_byte mark.Equal = 61
mark_byte mark.Comma = 44
mark_byte mark.OpenParenthesis = 40
mark_byte mark.CloseParenthesis = 41
mark_byte mark.OpenBrace = 123
mark_byte mark.CloseBrace = 125
mark_byte mark.OpenBracket = 91
mark_byte mark.CloseBracket = 93
mark_byte mark.Less = 60
mark_byte mark.Greater = 62
mark_byte mark.Hash = 35
mark_byte mark.Exclamation = 33
mark_byte mark.Colon = 58

-- no `!` is printed
abbrev pub is_printed : IrMark → Bool
is_printed mark.Exclamation = false
is_printed _ = true
