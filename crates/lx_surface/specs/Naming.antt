-- What is named while things are given.
use Rattle.std.specs.Prelude.{ℕ, Bool, true, false, ◌&&◌, Option, Some, None, List, is_some, nat_eq, nat_lt, slice_get}
use Rattle.std.specs.List.{list_any}
use Rattle.lx_annot.specs.declared.action.CapSpec.{CapSpec}
use Rattle.lx_annot.specs.declared.action.CapSpec.TheVariants as spec
use Rattle.lx_annot.specs.declared.interface.Item.{Item}
use Rattle.lx_annot.specs.Action.{Action, Copy, Transfer, Check, Lend, End, If}
use Rattle.lx_annot.specs.Expr.{Expr, Number}
use Rattle.lx_annot.specs.Items.{items_of}
use Rattle.lx_model.specs.declared.program.Program.{Program}
use Rattle.lx_model.specs.Program.{home_of}
use Rattle.lx_surface.specs.declared.Thing.{Thing}
use Rattle.lx_surface.specs.declared.Thing.TheVariants.{RefType, Function}
use Rattle.lx_surface.specs.Names.{item_names, names_function}

abbrev pub is_thing : Thing → Thing → Bool
is_thing (RefType t) (RefType u) = nat_eq t u
is_thing (Function f) (Function g) = nat_eq f g
is_thing _ _ = false

-- every defined function
abbrev pub is_any_function : Program → Thing → Bool
is_any_function p (Function g) = is_some (home_of p g)
is_any_function p (RefType t) = false

-- some of these names it
abbrev pub any_names : {A : Type 0} → (A → Thing → Bool) → List A → Thing → Bool
any_names test xs x = list_any (λ a. test a x) xs

-- the number that an expression is, if it is one
abbrev pub number_in : Expr → Option ℕ
number_in (Number a) = Some a
number_in _ = None

-- the iterator of a list, if it is one
abbrev pub iterator_in : CapSpec → Option ℕ
iterator_in (spec.Each k at) = Some k
iterator_in _ = None

-- what the expression of a call names
abbrev pub call_names : Program → Expr → Thing → Bool
call_names p e (Function g) = names_function p e g
call_names p e (RefType t) = false

abbrev pub one_item_names : Program → Item → Thing → Bool
one_item_names p i x = item_names p i.cap x

-- what a list that is given whole names: an iterator what its items name, and none every defined function
abbrev pub whole_names : Program → Option ℕ → Thing → Bool
whole_names p None x = is_any_function p x
whole_names p (Some k) x = any_names (one_item_names p) (items_of (slice_get p.interface.iterators k)) x

-- the function with this number, if it is defined
abbrev pub is_function_at : Program → ℕ → Thing → Bool
is_function_at p n x = is_some (home_of p n) && is_thing (Function n) x

-- a defined function below this number
abbrev pub is_function_below : Program → ℕ → Thing → Bool
is_function_below p n (Function g) = nat_lt g n && is_some (home_of p g)
is_function_below p n (RefType t) = false

-- the list that an action gives, behind any `if`
abbrev pub given_list : Action → Option CapSpec
given_list (Copy list) = Some list
given_list (Transfer list) = Some list
given_list (Check list) = None
given_list (Lend list) = Some list
given_list (End k) = None
given_list (If e a) = given_list a
