-- Reading actions.
use Rattle.std.specs.Prelude.{ℕ, zero, suc, Bool, ◌&&◌, Option, Some, List, [], ◌∷◌, length, Ok, if◌then◌else◌, codes, bytes_eq}
use Rattle.std.specs.Map.{lookup}
use Rattle.lx_annot.specs.declared.action.CapSpec.{CapSpec}
use Rattle.lx_annot.specs.Action.{Action, Copy, Transfer, Check, Lend, If}
use Rattle.lx_annot_terms.specs.declared.actions.Deed.{Deed}
use Rattle.lx_annot_terms.specs.declared.actions.Deed.TheVariants as deed
use Rattle.lx_annot_expressions.specs.Tokens.{Tok}
use Rattle.lx_annot_expressions.specs.Reading.{Read, ◌>>=◌, refused, behind, has, next_at, pick_at, always_refused}
use Rattle.lx_annot_expressions.specs.Exprs.{Scope, expr_at, bracketed_at}
use Rattle.lx_annot_terms.specs.Lists.{Known, list_at}

-- the words of actions, wherever they stand
abbrev pub deeds : List (List ℕ × Deed)
deeds = (codes "copy", deed.Copy) ∷ (codes "transfer", deed.Transfer) ∷ (codes "check", deed.Check) ∷ []

-- the action that a word stands for; `lend` is one where it may stand
unfoldable pub deed_of : Bool → List ℕ → Option Deed
deed_of lends bytes = if bytes_eq bytes (codes "lend") && lends then Some deed.Lend else lookup (bytes_eq bytes) deeds

abbrev pub action_of : Deed → CapSpec → Action
action_of deed.Copy list = Copy list
action_of deed.Transfer list = Transfer list
action_of deed.Check list = Check list
action_of deed.Lend list = Lend list

-- `copy(L)`, `transfer(L)`, `check(L)` or `lend(L)`
unfoldable pub deed_at : Scope → Known → List Tok → Read Action
deed_at scope known ts = do
  d ← pick_at (λ t. deed_of known.lends t.bytes) always_refused ts
  o ← next_at (codes "(") d.1
  l ← list_at scope known o.1
  c ← next_at (codes ")") l.1
  Ok (action_of d.0 l.0, c.1)

-- a condition, and what is read behind it
abbrev pub condition_at : Scope → (List Tok → Read Action) → List Tok → Read Action
condition_at scope inner ts = do
  e ← bracketed_at (expr_at scope) (behind ts)
  a ← inner e.1
  Ok (If e.0 a.0, a.1)

-- an action behind any number of `if (E)`; the number is at least that of the tokens
unfoldable pub action_within : Scope → Known → ℕ → List Tok → Read Action
action_within scope known zero ts = refused ts
action_within scope known (suc n) ts =
    if has (codes "if") ts then condition_at scope (action_within scope known n) ts else deed_at scope known ts

-- an action
unfoldable pub action_at : Scope → Known → List Tok → Read Action
action_at scope known ts = action_within scope known (length ts) ts
