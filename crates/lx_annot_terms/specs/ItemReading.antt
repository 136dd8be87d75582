-- Reading the items of an iterator.
use Rattle.std.specs.Prelude.{ℕ, Some, None, List, [], ◌∷◌, Ok, if◌then◌else◌, codes}
use Rattle.lx_annot.specs.declared.expr.Ty.TheVariants as ty
use Rattle.lx_annot.specs.declared.interface.Item.{Item}
use Rattle.lx_annot_expressions.specs.Tokens.{Tok}
use Rattle.lx_annot_expressions.specs.Reading.{Read, ◌>>=◌, behind, has, steps_at, adding_at}
use Rattle.lx_annot_expressions.specs.Exprs.{Scope, expr_at, bracketed_at}
use Rattle.lx_annot_terms.specs.Lists.{Known, item_list_at}

-- what names mean in the items of an iterator
abbrev pub scope_of_items : List ℕ → Scope
scope_of_items param = record { params = record { name = param; ty = ty.Ptr } ∷ []; ret = None }

-- an item behind `if (E)`
abbrev pub guarded_item_at : Scope → Known → List Tok → Read Item
guarded_item_at scope known ts = do
  e ← bracketed_at (expr_at scope) (behind ts)
  l ← item_list_at scope known e.1
  Ok (record { cond = Some e.0; cap = l.0 }, l.1)

abbrev pub plain_item_at : Scope → Known → List Tok → Read Item
plain_item_at scope known ts = item_list_at scope known ts >>= λ l. Ok (record { cond = None; cap = l.0 }, l.1)

-- an item
unfoldable pub item_at : Scope → Known → List Tok → Read Item
item_at scope known ts = if has (codes "if") ts then guarded_item_at scope known ts else plain_item_at scope known ts

-- how many items may stand behind the first
abbrev pub most_further_items : ℕ
most_further_items = 15

-- an item, whatever stands before it
abbrev pub item_behind : Scope → Known → List Item → List Tok → Read Item
item_behind scope known before ts = item_at scope known ts

-- 1 to 16 items, with `;` between them
unfoldable pub items_at : Scope → Known → List Tok → Read (List Item)
items_at scope known ts = do
  x ← item_at scope known ts
  steps_at (has (codes ";")) (adding_at (item_behind scope known)) most_further_items (x.0 ∷ []) x.1
