-- Worked rows: where lexemes end, and which lines are kept.
use Rattle.std.specs.Prelude.{◌≡◌, [], ◌∷◌, true, false, codes}
use Rattle.lx_words.specs.declared.token.TokenKind.TheVariants as kinds
use Rattle.lx_words.specs.declared.token.Lexeme.TheVariants.{Space, Comment, Token}
use Rattle.lx_ir_complete.specs.Pieces.{ends_before, lex, lexes, text_of}
use Rattle.lx_ir_complete.specs.Lines.{is_kept}

pub record WorkedPieces : Type 0 where
  pub word_ends : ends_before (Token kinds.Word) (codes " x") ≡ true
  pub word_goes_on : ends_before (Token kinds.Word) (codes "x") ≡ false
  pub string_goes_on : ends_before (Token kinds.Word) (codes "\"x\"") ≡ false
  pub name_goes_on : ends_before (Token kinds.Local) (codes "-1") ≡ false
  pub number_ends : ends_before (Token kinds.Number) (codes ")") ≡ true
  pub number_goes_on : ends_before (Token kinds.Number) (codes "7") ≡ false
  pub mark_ends : ends_before (Token kinds.Mark) (codes "x") ≡ true
  pub comment_goes_on : ends_before Comment (codes "\n") ≡ false
  pub text : text_of (record { lexeme = Token kinds.Word; bytes = codes "ret" } ∷ record { lexeme = Space; bytes = codes " " } ∷ record { lexeme = Token kinds.Word; bytes = codes "void" } ∷ []) ≡ codes "ret void"
  pub tokens : lexes (record { lexeme = Token kinds.Word; bytes = codes "ret" } ∷ record { lexeme = Space; bytes = codes " " } ∷ record { lexeme = Token kinds.Word; bytes = codes "void" } ∷ []) ≡ lex kinds.Word (codes "ret") ∷ lex kinds.Word (codes "void") ∷ []
  pub heading : is_kept (lex kinds.Word (codes "target") ∷ lex kinds.Word (codes "triple") ∷ []) ≡ false
  pub label : is_kept (lex kinds.Word (codes "target") ∷ lex kinds.Mark (codes ":") ∷ []) ≡ true
  pub dollar : is_kept (lex kinds.Word (codes "$a") ∷ []) ≡ false
  pub instruction : is_kept (lex kinds.Word (codes "ret") ∷ lex kinds.Word (codes "void") ∷ []) ≡ true
