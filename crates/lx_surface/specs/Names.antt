-- What an action of an annotation names, as far as it can be told without running anything.
use Rattle.std.specs.Prelude.{ℕ, Bool, false, Option, Some, None, List, nat_eq, is_some}
use Rattle.std.specs.List.{list_any}
use Rattle.lx_annot.specs.declared.action.CapSpec.{CapSpec}
use Rattle.lx_annot.specs.declared.action.CapSpec.TheVariants as spec
use Rattle.lx_annot.specs.declared.interface.Item.{Item}
use Rattle.lx_annot.specs.Action.{Action, Copy, Transfer, Check, Lend, End, If}
use Rattle.lx_annot.specs.Expr.{Expr, Number}
use Rattle.lx_annot.specs.Items.{list_items}
use Rattle.lx_model.specs.declared.program.Program.{Program}
use Rattle.lx_model.specs.Program.{annotation_or_none, function_at, home_of}
use Rattle.lx_surface.specs.declared.Thing.{Thing}
use Rattle.lx_surface.specs.declared.Thing.TheVariants as thing

abbrev pub is_number : ℕ → Option ℕ → Bool
is_number g None = false
is_number g (Some n) = nat_eq g n

-- a number names the defined function at that address, or nothing, and any other expression every defined function
abbrev pub names_function : Program → Expr → ℕ → Bool
names_function p (Number a) g = is_number g (function_at p a)
names_function p e g = is_some (home_of p g)

-- what an item without an iterator names: a reference its type
abbrev pub item_names : Program → CapSpec → Thing → Bool
item_names p (spec.Call at) (thing.Function g) = names_function p at g
item_names p (spec.Ref t at) (thing.RefType u) = nat_eq u t
item_names p _ x = false

-- an iterator names what its items name
abbrev pub list_names : Program → CapSpec → Thing → Bool
list_names p (spec.Each k at) x = list_any (λ (i : Item). item_names p i.cap x) (list_items p.interface (spec.Each k at))
list_names p list x = item_names p list x

-- an action gives what it copies, transfers or lends, behind any `if`
abbrev pub gives : Program → Action → Thing → Bool
gives p (Copy list) x = list_names p list x
gives p (Transfer list) x = list_names p list x
gives p (Check list) x = false
gives p (Lend list) x = list_names p list x
gives p (End k) x = false
gives p (If e a) x = gives p a x

-- what an action copies or transfers, behind any `if`
abbrev pub hands : Program → Action → Thing → Bool
hands p (Copy list) x = list_names p list x
hands p (Transfer list) x = list_names p list x
hands p (Check list) x = false
hands p (Lend list) x = false
hands p (End k) x = false
hands p (If e a) x = hands p a x

abbrev pub any_gives : Program → List Action → Thing → Bool
any_gives p actions x = list_any (λ (a : Action). gives p a x) actions

-- what the actions of a function's annotation give, to the function before its body, and to its caller behind it; a lend
-- stands before the body alone. A function without an annotation gives nothing
abbrev pub gives_before : Program → ℕ → Thing → Bool
gives_before p f x = any_gives p (annotation_or_none p f).pre x

abbrev pub gives_behind : Program → ℕ → Thing → Bool
gives_behind p f x = any_gives p (annotation_or_none p f).post x
