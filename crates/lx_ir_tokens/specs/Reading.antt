-- What the grammar of IR text sees of a text.
use Rattle.std.specs.Prelude.{◌≡◌, ◌↔◌, ℕ, ◌<◌, List, [], length, Option, Some, None, IsTrue, fold, slice_get}
use Rattle.std.specs.List.{AllZip}
use Rattle.lx_words.specs.declared.token.TokenRule.TheVariants.{Ir}
use Rattle.lx_words.specs.declared.token.Token.{Token}
use Rattle.lx_words.specs.Cuts.{bytes_of, Scans}
use Rattle.lx_ir_tokens.specs.declared.token.Tok.{Tok}
use Rattle.lx_ir_tokens.specs.declared.read.IrTokens.{IrTokens}
use Rattle.lx_ir_tokens.specs.Lines.{kept_tokens, last_line}
use Rattle.lx_ir_tokens.specs.Names.{with_name}
use Rattle.lx_ir_tokens.specs.Said.{has_name, kind_of, said}

-- the name that a token of a text says, where it has one
abbrev pub said_at : List ℕ → Token → Option (List ℕ)
said_at text t = said t.kind (bytes_of text t)

-- the table with a name, where there is one
abbrev pub with_said : List (List ℕ) → Option (List ℕ) → List (List ℕ)
with_said names None = names
with_said names (Some name) = with_name names name

-- the names that tokens say, each once, in the order in which they are first said
abbrev pub names_of : List ℕ → List Token → List (List ℕ)
names_of text tokens = fold (λ names t. with_said names (said_at text t)) [] tokens

-- The number stands for the name in the table; where there is none, it is 0.
abbrev pub StandsFor : List (List ℕ) → ℕ → Option (List ℕ) → Type 0
StandsFor names n None = n ≡ 0
StandsFor names n (Some name) = slice_get names n ≡ Some name

-- a token of a text as the grammar sees it
pub record IsTokOf (text : List ℕ) (names : List (List ℕ)) (t : Token) (tok : Tok) : Type 0 where
  pub kind : tok.kind ≡ kind_of t.kind (bytes_of text t)
  pub name : StandsFor names tok.name (said_at text t)

-- The tokens are those of the text's lines that are not passed over, up to the first byte that begins none. Each is seen with
-- the number of its name in a table of all these names.
pub record ReadsAs (text : List ℕ) (ir : IrTokens) : Type 0 where
  pub tokens : List Token
  pub scans : Scans Ir text tokens ir.stop
  pub places : ir.places ≡ kept_tokens text tokens
  pub names : ir.names ≡ names_of text ir.places
  pub toks : AllZip (IsTokOf text ir.names) ir.places ir.toks
  pub last_line : ir.last_line ≡ last_line tokens

-- a token that has a name has a number of the table
abbrev pub IsNumbered : List (List ℕ) → Tok → Type 0
IsNumbered names tok = IsTrue (has_name tok.kind) → tok.name < length names

-- A text is read in one way, and two tokens have the same number exactly where they say the same name.
pub record Readings (text : List ℕ) : Type 0 where
  pub one : (a b : IrTokens) → ReadsAs text a → ReadsAs text b → a ≡ b
  pub told_apart : (ir : IrTokens) → ReadsAs text ir → (t u : Token) (a b : Tok) (m n : List ℕ) → IsTokOf text ir.names t a → IsTokOf text ir.names u b → said_at text t ≡ Some m → said_at text u ≡ Some n → (a.name ≡ b.name) ↔ (m ≡ n)
