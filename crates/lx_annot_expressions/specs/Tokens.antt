-- Tokens as the grammar sees them: where they stand, and what stands between them, says nothing.
use Rattle.std.specs.Prelude.{ℕ, List, map}
use Rattle.lx_words.specs.declared.token.Token.{Token}
use Rattle.lx_words.specs.declared.token.TokenKind.{TokenKind}
use Rattle.lx_words.specs.Cuts.{bytes_of}

-- A token: what it is, and its bytes.
pub record Tok : Type 0 where
  pub kind : TokenKind
  pub bytes : List ℕ

abbrev pub tok_of : List ℕ → Token → Tok
tok_of text t = record { kind = t.kind; bytes = bytes_of text t }

-- tokens of a text
abbrev pub toks_of : List ℕ → List Token → List Tok
toks_of text tokens = map (tok_of text) tokens

-- how many tokens a statement has at most
abbrev pub most_tokens : ℕ
most_tokens = 1024
