-- Worked rows: where lexemes end, and which tokens pieces are.
use Rattle.std.specs.Prelude.{◌≡◌, [], ◌∷◌, true, false, codes}
use Rattle.lx_words.specs.declared.token.TokenKind.TheVariants as kinds
use Rattle.lx_words.specs.declared.token.Lexeme.TheVariants.{Space, Comment, Token}
use Rattle.lx_annot_laws.specs.Says.{is_opening, ends_before, text_of, tok, toks}

pub record WorkedPieces : Type 0 where
  pub word_ends : ends_before (Token kinds.Word) (codes "pre") (codes "(x)") ≡ true
  pub word_goes_on : ends_before (Token kinds.Word) (codes "pre") (codes "x") ≡ false
  pub name_goes_on : ends_before (Token kinds.Local) (codes "%a") (codes "-1") ≡ false
  pub number_ends : ends_before (Token kinds.Number) (codes "8") (codes ", x") ≡ true
  pub number_goes_on : ends_before (Token kinds.Number) (codes "8") (codes "7") ≡ false
  pub bracket_ends : ends_before (Token kinds.Mark) (codes "(") (codes "=") ≡ true
  pub mark_ends : ends_before (Token kinds.Mark) (codes "!") (codes "(x)") ≡ true
  pub mark_goes_on : ends_before (Token kinds.Mark) (codes "<") (codes "= x") ≡ false
  pub long_mark_ends : ends_before (Token kinds.Mark) (codes "<=") (codes "=") ≡ true
  pub comment_goes_on : ends_before Comment (codes "# x") (codes "\n") ≡ false
  pub expression_opens : is_opening (codes "(x + 1)") ≡ true
  pub mark_opens_none : is_opening (codes "-x") ≡ false
  pub text : text_of (record { lexeme = Token kinds.Word; bytes = codes "slot" } ∷ record { lexeme = Space; bytes = codes " " } ∷ record { lexeme = Token kinds.Word; bytes = codes "f" } ∷ []) ≡ codes "slot f"
  pub tokens : toks (record { lexeme = Token kinds.Word; bytes = codes "slot" } ∷ record { lexeme = Space; bytes = codes " " } ∷ record { lexeme = Token kinds.Word; bytes = codes "f" } ∷ []) ≡ tok kinds.Word (codes "slot") ∷ tok kinds.Word (codes "f") ∷ []
