-- The operators of expressions, and how tightly they bind.
use Rattle.std.specs.Prelude.{ℕ, ◌==◌, Option, Some, None, List, [], ◌∷◌, codes, bytes_eq, if◌then◌else◌}
use Rattle.std.specs.Map.{lookup}
use Rattle.lx_annot.specs.declared.expr.Mark.{Mark}
use Rattle.lx_annot.specs.declared.expr.Mark.TheVariants as mark
use Rattle.lx_annot_expressions.specs.Tokens.{Tok}
use Rattle.lx_annot_expressions.specs.Reading.{has}

-- The operators with two sides, each with the number of levels of operators that bind more tightly.
abbrev pub operators : List (List ℕ × (ℕ × Mark))
operators =
    (codes "||", (9, mark.Either))
    ∷ (codes "&&", (8, mark.Both))
    ∷ (codes "|", (7, mark.Or))
    ∷ (codes "^", (6, mark.Xor))
    ∷ (codes "&", (5, mark.And))
    ∷ (codes "==", (4, mark.Equal))
    ∷ (codes "!=", (4, mark.Differs))
    ∷ (codes "<", (3, mark.Less))
    ∷ (codes "<=", (3, mark.AtMost))
    ∷ (codes ">", (3, mark.Greater))
    ∷ (codes ">=", (3, mark.AtLeast))
    ∷ (codes "<<", (2, mark.ShiftLeft))
    ∷ (codes ">>", (2, mark.ShiftRight))
    ∷ (codes "+", (1, mark.Add))
    ∷ (codes "-", (1, mark.Sub))
    ∷ (codes "*", (0, mark.Mul))
    ∷ []

-- how many levels of operators there are
abbrev pub levels : ℕ
levels = 10

-- the operator of these bytes with its level
unfoldable pub operator_of : List ℕ → Option (ℕ × Mark)
operator_of bytes = lookup (bytes_eq bytes) operators

abbrev pub if_of_level : ℕ → Option (ℕ × Mark) → Option Mark
if_of_level level None = None
if_of_level level (Some o) = if o.0 == level then Some o.1 else None

-- the operator of a level that stands next
abbrev pub operator_next : ℕ → List Tok → Option Mark
operator_next level [] = None
operator_next level (t ∷ ts) = if_of_level level (operator_of t.bytes)

-- the operator with one side that stands next
abbrev pub prefix_next : List Tok → Option Mark
prefix_next ts = if has (codes "-") ts then Some mark.Negate else if has (codes "!") ts then Some mark.Invert else None
