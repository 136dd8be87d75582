-- Which tokens signatures, clauses and items are: the grammar, apart from how it is read.
use Rattle.std.specs.Prelude.{◌≡◌, ℕ, ◌≤◌, false, Option, Some, None, List, [], ◌∷◌, ◌++◌, length, codes}
use Rattle.lx_annot.specs.declared.expr.Ty.{Ty}
use Rattle.lx_annot.specs.declared.interface.Parameter.{Parameter}
use Rattle.lx_annot.specs.declared.interface.Item.{Item}
use Rattle.lx_annot.specs.declared.action.Who.{Who}
use Rattle.lx_annot.specs.declared.action.Who.TheVariants as who
use Rattle.lx_annot.specs.declared.action.Annotation.{Annotation}
use Rattle.lx_annot.specs.Action.{Action, with_end}
use Rattle.lx_annot_expressions.specs.Tokens.{Tok}
use Rattle.lx_annot_expressions.specs.Reading.{has}
use Rattle.lx_annot_expressions.specs.Names.{fresh_of}
use Rattle.lx_annot_expressions.specs.Exprs.{Scope, names_of_params}
use Rattle.lx_annot_expressions.specs.Grammar.{Part, Picks, Is, IsNothing, ◌then◌, IsExpr}
use Rattle.lx_annot_terms.specs.Lists.{Known}
use Rattle.lx_annot_terms.specs.Signatures.{Signature, type_of, is_reserved}
use Rattle.lx_annot_terms.specs.Clauses.{scope_before, scope_behind, without_lends}
use Rattle.lx_annot_terms.specs.ItemReading.{most_further_items}
use Rattle.lx_annot_terms.specs.Grammar.{IsAction, IsItem}

-- values behind those before, each behind this mark
abbrev pub IsFurther : {A : Type 0} → List ℕ → (List A → A → Part) → List A → List A → Part
IsFurther mark item before [] = IsNothing
IsFurther mark item before (x ∷ xs) = Is mark then item before x then IsFurther mark item (before ++ x ∷ []) xs

-- Signatures.

abbrev pub IsType : Ty → Part
IsType ty = Picks (λ t. type_of t.bytes) ty

-- a name for a parameter: a word that is none of these names, nor reserved
abbrev pub IsParamName : List (List ℕ) → List ℕ → Part
IsParamName names name ts = (t : Tok) × (is_reserved (t ∷ []) ≡ false) × (fresh_of names t.kind t.bytes ≡ Some name) × (ts ≡ t ∷ [])

-- `T P`
abbrev pub IsParam : List Parameter → Parameter → Part
IsParam before p = IsType p.ty then IsParamName (names_of_params before) p.name

-- nothing, or `T P, ..`
abbrev pub IsParams : List Parameter → Part
IsParams [] = IsNothing
IsParams (p ∷ ps) = IsParam [] p then IsFurther (codes ",") IsParam (p ∷ []) ps

-- `: T (T P, ..)`
abbrev pub IsSignature : Signature → Part
IsSignature sig = Is (codes ":") then IsType sig.ret then Is (codes "(") then IsParams sig.params then Is (codes ")")

-- Items.

-- 1 to 16 items, with `;` between them
abbrev pub IsItems : Scope → Known → List Item → Part
IsItems scope known [] = λ ts. ⊥
IsItems scope known (x ∷ xs) = λ ts. (length xs ≤ most_further_items) × (IsItem scope known x then IsFurther (codes ";") (λ before. IsItem scope known) (x ∷ []) xs) ts

-- Clauses.

pub data Clause : Type 0 where
  Principal : Who → Clause
  Pre : Action → Clause
  Post : Action → Clause

-- `shared`, `global`, or an expression that begins with neither
abbrev pub IsWho : Scope → Who → Part
IsWho scope who.Shared = Is (codes "shared")
IsWho scope who.Global = Is (codes "global")
IsWho scope (who.Value e) = λ ts. (has (codes "shared") ts ≡ false) × (has (codes "global") ts ≡ false) × IsExpr scope e ts

-- a word, and something in brackets behind it
abbrev pub Enclosed : List ℕ → Part → Part
Enclosed word part = Is word then Is (codes "(") then part then Is (codes ")")

-- `principal(..)`, `pre(A)`, or `post(A)` where A lends nothing
abbrev pub IsClause : Signature → Known → Clause → Part
IsClause sig known (Principal w) = Enclosed (codes "principal") (IsWho (scope_before sig) w)
IsClause sig known (Pre a) = Enclosed (codes "pre") (IsAction (scope_before sig) known a)
IsClause sig known (Post a) = Enclosed (codes "post") (IsAction (scope_behind sig) (without_lends known) a)

abbrev pub IsClauses : Signature → Known → List Clause → Part
IsClauses sig known [] = IsNothing
IsClauses sig known (c ∷ cs) = IsClause sig known c then IsClauses sig known cs

-- The principals and the actions that clauses say, each in their order.

abbrev pub principals : List Clause → List Who
principals [] = []
principals (Principal w ∷ cs) = w ∷ principals cs
principals (Pre a ∷ cs) = principals cs
principals (Post a ∷ cs) = principals cs

abbrev pub pres : List Clause → List Action
pres [] = []
pres (Principal w ∷ cs) = pres cs
pres (Pre a ∷ cs) = a ∷ pres cs
pres (Post a ∷ cs) = pres cs

abbrev pub posts : List Clause → List Action
posts [] = []
posts (Principal w ∷ cs) = posts cs
posts (Pre a ∷ cs) = posts cs
posts (Post a ∷ cs) = a ∷ posts cs

-- the one principal of an annotation, or none
abbrev pub listed : Option Who → List Who
listed None = []
listed (Some w) = w ∷ []

-- The clauses say this annotation behind what another says.
pub record Goes (before : Annotation) (cs : List Clause) (after : Annotation) : Type 0 where
  pub principal : listed before.principal ++ principals cs ≡ listed after.principal
  pub pre : before.pre ++ pres cs ≡ after.pre
  pub post : before.post ++ posts cs ≡ after.post

-- The clauses say this annotation: at most one principal, the actions in their order, and behind them the end of all loans.
pub record Say (cs : List Clause) (a : Annotation) : Type 0 where
  pub principal : principals cs ≡ listed a.principal
  pub pre : pres cs ≡ a.pre
  pub post : with_end a.pre (posts cs) ≡ a.post

-- clauses in any order
abbrev pub IsAnnotation : Signature → Known → Annotation → Part
IsAnnotation sig known a ts = (cs : List Clause) × IsClauses sig known cs ts × Say cs a
