-- Reading and the grammar agree.
use Rattle.std.specs.Prelude.{◌≡◌, Bool, true, ◌||◌, List, ◌++◌, Ok, codes}
use Rattle.lx_annot.specs.Expr.{Expr}
use Rattle.lx_annot_expressions.specs.Tokens.{Tok}
use Rattle.lx_annot_expressions.specs.Reading.{Read, has}
use Rattle.lx_annot_expressions.specs.Exprs.{Scope, expr_at}
use Rattle.lx_annot_expressions.specs.Grammar.{Part, IsExpr}

-- what is in this part of the grammar is read as `x`, whatever follows
abbrev pub Reads : {A : Type 0} → (List Tok → Read A) → A → Part → Type 0
Reads read x part = (ts us : List Tok) → part ts → read (ts ++ us) ≡ Ok (x, us)

-- the same, where this may follow
abbrev pub ReadsBefore : {A : Type 0} → (List Tok → Bool) → (List Tok → Read A) → A → Part → Type 0
ReadsBefore closes read x part = (ts us : List Tok) → closes us ≡ true → part ts → read (ts ++ us) ≡ Ok (x, us)

-- what is read stands at the front, and is in the grammar
abbrev pub Finds : {A : Type 0} → (List Tok → Read A) → (A → Part) → Type 0
Finds {A} read part = (ts us : List Tok) (x : A) → read ts ≡ Ok (x, us) → (front : List Tok) × part x front × (ts ≡ front ++ us)

-- a mark that ends an expression stands next
abbrev pub closes_expr : List Tok → Bool
closes_expr ts = has (codes ")") ts || has (codes ",") ts || has (codes ";") ts || has (codes "}") ts

-- The tokens of an expression are read as it, whatever follows the mark that ends it.
abbrev pub ExprsAreRead : Type 0
ExprsAreRead = (scope : Scope) (e : Expr) → ReadsBefore closes_expr (expr_at scope) e (IsExpr scope e)

-- What is read as an expression are its tokens.
abbrev pub ExprsAreFound : Type 0
ExprsAreFound = (scope : Scope) → Finds (expr_at scope) (IsExpr scope)
