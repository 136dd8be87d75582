-- Which tokens expressions, lists, actions and items are: the grammar, apart from how it is read.
use Rattle.std.specs.Prelude.{◌≡◌, ℕ, suc, ◌<◌, Bool, true, false, ◌||◌, Option, Some, List, [], ◌∷◌, ◌++◌, codes}
use Rattle.lx_annot.specs.declared.expr.Mark.{Mark}
use Rattle.lx_annot.specs.declared.action.CapSpec.TheVariants as spec
use Rattle.lx_annot.specs.Expr.{Expr, Load64, Unary, Binary}
use Rattle.lx_annot_expressions.specs.Tokens.{Tok}
use Rattle.lx_annot_expressions.specs.Reading.{has}
use Rattle.lx_annot_expressions.specs.Operators.{levels, operator_next, prefix_next}
use Rattle.lx_annot_expressions.specs.Exprs.{Scope, flat_of}

-- which lists of tokens a part of the grammar is
abbrev pub Part : Type 1
Part = List Tok → Type 0

-- one token, from which this is picked
abbrev pub Picks : {A : Type 0} → (Tok → Option A) → A → Part
Picks what x ts = (t : Tok) × (what t ≡ Some x) × (ts ≡ t ∷ [])

-- the token of these bytes
abbrev pub Is : List ℕ → Part
Is text ts = (t : Tok) × (has text (t ∷ []) ≡ true) × (ts ≡ t ∷ [])

-- no token
abbrev pub IsNothing : Part
IsNothing ts = ts ≡ []

-- one part, and another behind it
infixr 5 ◌then◌
abbrev pub ◌then◌ : Part → Part → Part
(p then q) ts = (front : List Tok) × (back : List Tok) × p front × q back × (ts ≡ front ++ back)

-- an operator of a level, and one with one side
abbrev pub IsOperator : ℕ → Mark → Part
IsOperator level m ts = (t : Tok) × (operator_next level (t ∷ []) ≡ Some m) × (ts ≡ t ∷ [])

abbrev pub IsPrefix : Mark → Part
IsPrefix m ts = (t : Tok) × (prefix_next (t ∷ []) ≡ Some m) × (ts ≡ t ∷ [])

-- a mark that begins an operand
abbrev pub is_sign : Tok → Bool
is_sign t = has (codes "-") (t ∷ []) || has (codes "!") (t ∷ []) || has (codes "(") (t ∷ [])

-- How an expression is written: one token, in brackets, a load, behind an operator, or two with an operator of a level between them.
pub data Form : Type 0 where
  Flat : Form
  Bracket : Form → Form
  Load : Form → Form
  Prefix : Form → Form
  Joined : ℕ → Form → Form → Form

-- The tokens are this expression, written so, with operators of levels below this one outside brackets. What stands to the left of an
-- operator may have operators of the same level, what stands to its right only tighter ones.
abbrev pub IsForm : Scope → Form → ℕ → Expr → Part
IsForm scope Flat level e = λ ts. (t : Tok) × (flat_of scope t.kind t.bytes ≡ Some e) × (is_sign t ≡ false) × (ts ≡ t ∷ [])
IsForm scope (Bracket f) level e = Is (codes "(") then IsForm scope f levels e then Is (codes ")")
IsForm scope (Load f) level e =
    λ ts. (x : Expr) × (e ≡ Load64 x) × (Is (codes "load64") then Is (codes "(") then IsForm scope f levels x then Is (codes ")")) ts
IsForm scope (Prefix f) level e = λ ts. (m : Mark) × (x : Expr) × (e ≡ Unary m x) × (IsPrefix m then IsForm scope f 0 x) ts
IsForm scope (Joined k f g) level e =
    λ ts. (k < level) × (m : Mark) × (a : Expr) × (b : Expr) × (e ≡ Binary m a b) × (IsForm scope f (suc k) a then IsOperator k m then IsForm scope g k b) ts

-- the tokens are this expression
abbrev pub IsExpr : Scope → Expr → Part
IsExpr scope e ts = (f : Form) × IsForm scope f levels e ts

-- `(E)`
abbrev pub InBrackets : Scope → Expr → Part
InBrackets scope e = Is (codes "(") then IsExpr scope e then Is (codes ")")
