-- Reading and the grammar agree.
use Rattle.lx_annot.specs.declared.action.CapSpec.{CapSpec}
use Rattle.lx_annot.specs.Action.{Action}
use Rattle.lx_annot_expressions.specs.Exprs.{Scope}
use Rattle.lx_annot_expressions.specs.Laws.{Reads, ReadsBefore, Finds, closes_expr}
use Rattle.lx_annot_terms.specs.Lists.{Known, list_at, item_list_at}
use Rattle.lx_annot_terms.specs.Actions.{action_at}
use Rattle.lx_annot_terms.specs.ItemReading.{item_at}
use Rattle.lx_annot_terms.specs.Grammar.{IsList, IsItemList, IsAction, IsItem}

-- The tokens of a list are read as it, where a mark follows that ends its last expression; those of an action whatever follows.
abbrev pub ListsAreRead : Type 0
ListsAreRead = (scope : Scope) (known : Known) (list : CapSpec) → ReadsBefore closes_expr (list_at scope known) list (IsList scope known list)

abbrev pub ItemListsAreRead : Type 0
ItemListsAreRead = (scope : Scope) (known : Known) (list : CapSpec) → ReadsBefore closes_expr (item_list_at scope known) list (IsItemList scope known list)

abbrev pub ActionsAreRead : Type 0
ActionsAreRead = (scope : Scope) (known : Known) (a : Action) → Reads (action_at scope known) a (IsAction scope known a)

-- What is read as a list, an action or an item are its tokens.
abbrev pub ListsAreFound : Type 0
ListsAreFound = (scope : Scope) (known : Known) → Finds (list_at scope known) (IsList scope known)

abbrev pub ActionsAreFound : Type 0
ActionsAreFound = (scope : Scope) (known : Known) → Finds (action_at scope known) (IsAction scope known)

abbrev pub ItemsAreFound : Type 0
ItemsAreFound = (scope : Scope) (known : Known) → Finds (item_at scope known) (IsItem scope known)
