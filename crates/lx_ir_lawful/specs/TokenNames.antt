-- The names that tokens say may stand in a module.
use Rattle.std.specs.Prelude.{◌≡◌, ℕ, ℤ, ◌+◌, ◌≤◌, false, IsTrue, Option, Some, List, [], ◌∷◌, length, slice_get}
use Rattle.std.specs.List.{AllByRecursion}
use Rattle.lx_ir.specs.Lawful.{is_name, is_label}
use Rattle.lx_ir_tokens.specs.declared.token.Tok.{Tok}
use Rattle.lx_ir_tokens.specs.declared.token.Kind.{Kind}
use Rattle.lx_ir_tokens.specs.declared.token.Kind.TheVariants as kinds
use Rattle.lx_ir_tokens.specs.declared.keyword.Keyword.{Keyword}
use Rattle.lx_ir_tokens.specs.declared.read.IrTokens.{IrTokens}
use Rattle.lx_ir_tokens.specs.Reading.{ReadsAs}

-- a name of the table that a type, a register, a function or a global may have
abbrev pub IsNamed : List (List ℕ) → ℕ → Type 0
IsNamed names n = (w : List ℕ) × (slice_get names n ≡ Some w) × IsTrue (is_name w)

-- a name of the table that a block may have
abbrev pub IsLabelled : List (List ℕ) → ℕ → Type 0
IsLabelled names n = (w : List ℕ) × (slice_get names n ≡ Some w) × IsTrue (is_label w)

pub record IsTokenNamed (names : List (List ℕ)) (t : Tok) : Type 0 where
  pub local : t.kind ≡ kinds.Local → IsNamed names t.name
  pub global : t.kind ≡ kinds.Global → IsNamed names t.name
  pub word : (w : Keyword) → t.kind ≡ kinds.Word w → IsLabelled names t.name
  pub number : (v : Option ℤ) → t.kind ≡ kinds.Number v false → IsLabelled names t.name

-- The names behind `%` and `@` may stand in a module, and words and numbers without a sign may be labels.
abbrev pub TokensAreNamed : Type 0
TokensAreNamed = (text : List ℕ) (ir : IrTokens) → ReadsAs text ir → AllByRecursion (IsTokenNamed ir.names) ir.toks

-- how many of the tokens are marks of punctuation
abbrev pub counted_mark : Kind → ℕ
counted_mark (kinds.Mark m) = 1
counted_mark _ = 0

abbrev pub mark_count : List Tok → ℕ
mark_count [] = 0
mark_count (t ∷ ts) = counted_mark t.kind + mark_count ts

-- The names of a text, and its marks, are no more than its tokens.
abbrev pub NamesAreFew : Type 0
NamesAreFew = (text : List ℕ) (ir : IrTokens) → ReadsAs text ir → length ir.names + mark_count ir.toks ≤ length ir.toks
