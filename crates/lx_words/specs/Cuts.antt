-- A text as the longest lexemes, one after the other, and the tokens among them.
use Rattle.std.specs.Prelude.{◌≡◌, ℕ, ◌+◌, ◌-◌, ◌<◌, ◌≤◌, List, [], ◌∷◌, ◌++◌, length, take, drop, Option, Some, MatchOption, ◌==◌, count_by}
use Rattle.lx_words.specs.declared.token.TokenRule.{TokenRule}
use Rattle.lx_words.specs.declared.token.Lexeme.{Lexeme}
use Rattle.lx_words.specs.declared.token.Lexeme.TheVariants as lexemes
use Rattle.lx_words.specs.declared.token.Token.{Token}
use Rattle.lx_words.specs.declared.token.Stop.{Stop}
use Rattle.lx_words.specs.declared.token.LexFault.{LexFault}
use Rattle.lx_words.specs.declared.token.LexFault.TheVariants as faults
use Rattle.lx_words.specs.Lexemes.{lexeme_of}
use Rattle.lx_words.specs.Longest.{Begins, NothingBegins}

-- a lexeme and its bytes
pub record Piece : Type 0 where
  pub lexeme : Lexeme
  pub bytes : List ℕ

-- At each place the longest lexeme is taken; the rest is left.
abbrev pub Cuts : TokenRule → List ℕ → List Piece → List ℕ → Type 0
Cuts rule text [] rest = text ≡ rest
Cuts rule text (p ∷ ps) rest = (after : List ℕ) × (text ≡ p.bytes ++ after) × Begins (lexeme_of rule) text p.lexeme (length p.bytes) × Cuts rule after ps rest

abbrev pub feeds : List ℕ → ℕ
feeds bytes = count_by (λ b. b == 10) bytes

-- the token that a lexeme is, from a place on in a line
abbrev pub token_at : Lexeme → ℕ → ℕ → ℕ → List Token
token_at lexemes.Space at end line = []
token_at lexemes.Comment at end line = []
token_at (lexemes.Token kind) at end line = record { kind = kind; start = at; end = end; line = line } ∷ []

-- the tokens among the pieces, with their places and lines
abbrev pub tokens_of : ℕ → ℕ → List Piece → List Token
tokens_of at line [] = []
tokens_of at line (p ∷ ps) = token_at p.lexeme at (at + length p.bytes) line ++ tokens_of (at + length p.bytes) (line + feeds p.bytes) ps

abbrev pub place_after : ℕ → List Piece → ℕ
place_after at [] = at
place_after at (p ∷ ps) = place_after (at + length p.bytes) ps

abbrev pub line_after : ℕ → List Piece → ℕ
line_after line [] = line
line_after line (p ∷ ps) = line_after (line + feeds p.bytes) ps

-- The text is cut up to a rest, with these tokens; the rest begins at this place in this line.
pub record Reaches (rule : TokenRule) (text : List ℕ) (tokens : List Token) (at line : ℕ) (rest : List ℕ) : Type 0 where
  pub pieces : List Piece
  pub cut : Cuts rule text pieces rest
  pub are : tokens ≡ tokens_of 0 1 pieces
  pub place : at ≡ place_after 0 pieces
  pub row : line ≡ line_after 1 pieces

-- The whole text falls into these tokens.
abbrev pub Splits : TokenRule → List ℕ → List Token → Type 0
Splits rule text tokens = (at line : ℕ) × Reaches rule text tokens at line []

-- The text falls into these tokens up to a byte that begins none.
abbrev pub StopsAt : TokenRule → List ℕ → List Token → Stop → Type 0
StopsAt rule text tokens stop = (at : ℕ) × (more : List ℕ) × Reaches rule text tokens at stop.line (stop.byte ∷ more) × NothingBegins (lexeme_of rule) (stop.byte ∷ more)

abbrev pub Scans : TokenRule → List ℕ → List Token → Option Stop → Type 0
Scans rule text tokens stop = MatchOption stop (Splits rule text tokens) (λ s. StopsAt rule text tokens s)

abbrev pub SplitFails : TokenRule → List ℕ → LexFault → Type 0
SplitFails rule text faults.Memory = Unit {0}
SplitFails rule text (faults.Byte line byte) = (tokens : List Token) × StopsAt rule text tokens (record { line = line; byte = byte })

-- A token stands within a text.
pub record IsWithin (text : List ℕ) (t : Token) : Type 0 where
  pub some : t.start < t.end
  pub inside : t.end ≤ length text

-- the bytes of a token
abbrev pub bytes_of : List ℕ → Token → List ℕ
bytes_of text t = take (t.end - t.start) (drop t.start text)

-- The bytes of a token are a token of its kind, and its line is one more than the line feeds before it.
pub record IsTokenOf (rule : TokenRule) (text : List ℕ) (t : Token) : Type 0 where
  pub within : IsWithin text t
  pub is : lexeme_of rule (bytes_of text t) ≡ Some (lexemes.Token t.kind)
  pub row : t.line ≡ 1 + feeds (take t.start text)

-- The byte stands in the text, in the line that is one more than the line feeds before it.
pub record StandsAt (text : List ℕ) (stop : Stop) : Type 0 where
  pub before : List ℕ
  pub more : List ℕ
  pub whole : text ≡ before ++ stop.byte ∷ more
  pub row : stop.line ≡ 1 + feeds before

-- A text has one way to be cut.
pub record OneWay (rule : TokenRule) (text : List ℕ) : Type 0 where
  pub whole : (a b : List Token) → Splits rule text a → Splits rule text b → a ≡ b
  pub stop : (a b : List Token) (s t : Stop) → StopsAt rule text a s → StopsAt rule text b t → (a ≡ b) × (s ≡ t)
  pub apart : (a b : List Token) (s : Stop) → Splits rule text a → StopsAt rule text b s → ⊥
  pub place : (a : List Token) (s : Stop) → StopsAt rule text a s → StandsAt text s
