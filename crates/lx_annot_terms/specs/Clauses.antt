-- Reading the clauses of a slot or an export.
use Rattle.std.specs.Prelude.{Bool, false, ◌||◌, Option, Some, None, is_some, List, [], ◌∷◌, ◌++◌, length, Ok, if◌then◌else◌, codes}
use Rattle.lx_annot.specs.declared.expr.Ty.{Ty}
use Rattle.lx_annot.specs.declared.expr.Ty.TheVariants as ty
use Rattle.lx_annot.specs.declared.action.Who.{Who}
use Rattle.lx_annot.specs.declared.action.Who.TheVariants as who
use Rattle.lx_annot.specs.declared.action.Annotation.{Annotation}
use Rattle.lx_annot.specs.Action.{Action, with_end}
use Rattle.lx_annot_expressions.specs.Tokens.{Tok}
use Rattle.lx_annot_expressions.specs.Reading.{Read, ◌>>=◌, refused, behind, has, next_at, steps_at}
use Rattle.lx_annot_expressions.specs.Exprs.{Scope, expr_at}
use Rattle.lx_annot_terms.specs.Lists.{Known}
use Rattle.lx_annot_terms.specs.Actions.{action_at}
use Rattle.lx_annot_terms.specs.Signatures.{Signature}

-- the type of `return` behind a function's body, where it has a result
abbrev pub result_of : Ty → Option Ty
result_of ty.Void = None
result_of t = Some t

-- what names mean before the body, and behind it
abbrev pub scope_before : Signature → Scope
scope_before sig = record { params = sig.params; ret = None }

abbrev pub scope_behind : Signature → Scope
scope_behind sig = record { params = sig.params; ret = result_of sig.ret }

-- what an action behind the body may use: it lends nothing
abbrev pub without_lends : Known → Known
without_lends known = record { reftypes = known.reftypes; iterators = known.iterators; lends = false }

-- `shared`, `global` or an expression
abbrev pub who_at : Scope → List Tok → Read Who
who_at scope ts =
    if has (codes "shared") ts then Ok (who.Shared, behind ts)
    else if has (codes "global") ts then Ok (who.Global, behind ts)
    else expr_at scope ts >>= λ e. Ok (who.Value e.0, e.1)

-- the same in brackets
abbrev pub principal_at : Scope → List Tok → Read Who
principal_at scope ts = do
  o ← next_at (codes "(") ts
  w ← who_at scope o.1
  c ← next_at (codes ")") w.1
  Ok (w.0, c.1)

-- what was read, where a bracket closes it
abbrev pub closed_at : {A : Type 0} → A → List Tok → Read A
closed_at x ts = next_at (codes ")") ts >>= λ c. Ok (x, c.1)

-- an action in brackets
abbrev pub enclosed_action_at : Scope → Known → List Tok → Read Action
enclosed_action_at scope known ts = do
  o ← next_at (codes "(") ts
  a ← action_at scope known o.1
  c ← next_at (codes ")") a.1
  Ok (a.0, c.1)

abbrev pub with_principal : Annotation → Who → Annotation
with_principal a w = record { principal = Some w; pre = a.pre; post = a.post }

abbrev pub with_pre : Annotation → Action → Annotation
with_pre a x = record { principal = a.principal; pre = a.pre ++ x ∷ []; post = a.post }

abbrev pub with_post : Annotation → Action → Annotation
with_post a x = record { principal = a.principal; pre = a.pre; post = a.post ++ x ∷ [] }

-- the actions behind the body, and the end of the loans that those before it open
abbrev pub with_loans_ended : Annotation → Annotation
with_loans_ended a = record { principal = a.principal; pre = a.pre; post = with_end a.pre a.post }

abbrev pub empty_annotation : Annotation
empty_annotation = record { principal = None; pre = []; post = [] }

-- `principal(..)`, which stands once at most
abbrev pub principal_clause_at : Signature → Annotation → List Tok → Read Annotation
principal_clause_at sig a ts =
    if is_some a.principal then refused ts
    else principal_at (scope_before sig) (behind ts) >>= λ w. Ok (with_principal a w.0, w.1)

abbrev pub pre_clause_at : Signature → Known → Annotation → List Tok → Read Annotation
pre_clause_at sig known a ts = enclosed_action_at (scope_before sig) known (behind ts) >>= λ x. Ok (with_pre a x.0, x.1)

abbrev pub post_clause_at : Signature → Known → Annotation → List Tok → Read Annotation
post_clause_at sig known a ts = enclosed_action_at (scope_behind sig) (without_lends known) (behind ts) >>= λ x. Ok (with_post a x.0, x.1)

-- the word of a clause stands next
abbrev pub begins_clause : List Tok → Bool
begins_clause ts = has (codes "principal") ts || has (codes "pre") ts || has (codes "post") ts

-- a clause, put to those before it
unfoldable pub clause_at : Signature → Known → Annotation → List Tok → Read Annotation
clause_at sig known a ts =
    if has (codes "principal") ts then principal_clause_at sig a ts
    else if has (codes "pre") ts then pre_clause_at sig known a ts
    else post_clause_at sig known a ts

-- all clauses that are written there
unfoldable pub written_at : Signature → Known → List Tok → Read Annotation
written_at sig known ts = steps_at begins_clause (clause_at sig known) (length ts) empty_annotation ts

-- the annotation that they say
unfoldable pub clauses_at : Signature → Known → List Tok → Read Annotation
clauses_at sig known ts = written_at sig known ts >>= λ a. Ok (with_loans_ended a.0, a.1)
