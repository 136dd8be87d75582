-- What names what is there does so still where more is declared.
use Rattle.std.proofs.Common.{ℕ, ◌≤◌, List, arith}
use Rattle.std.proofs.lemmas.List.Elements.{All-weaker}
use Rattle.lx_annot.specs.declared.action.Annotation.{Annotation}
use Rattle.lx_annot.specs.declared.expr.Ty.{Ty}
use Rattle.lx_annot.specs.declared.interface.Parameter.{Parameter}
use Rattle.lx_annot.specs.declared.interface.Item.{Item}
use Rattle.lx_annot.specs.declared.interface.CapIterator.{CapIterator}
use Rattle.lx_annot.specs.Action.{Action}
use Rattle.lx_annot.specs.Lawful.{Nameable, Declared, IsLawfulAction, IsLawfulBehind, ArePosts, IsLawfulItem, IsLawfulIterator, IsLawfulCallable, named_by_items, named_before, named_behind}
use Rattle.lx_annot_laws.proofs.GrammarActions.{Within, list_grows, action_grows}

behind_grows : (a b : Declared) (may : Nameable) (x : Action) → Within a b → IsLawfulBehind a may x → IsLawfulBehind b may x
behind_grows a b may x w is = record { is = action_grows a b may x w is.is; lends_nothing = is.lends_nothing }

posts_grow : (a b : Declared) (may : Nameable) (pre post : List Action) → Within a b → ArePosts a may pre post → ArePosts b may pre post
posts_grow a b may pre post w are = record {
  written = are.written;
  lawful = All-weaker (IsLawfulBehind a may) (IsLawfulBehind b may) (λ y. behind_grows a b may y w) are.written are.lawful;
  whole = are.whole;
}

pub callable_grows : (a b : Declared) (params : List Parameter) (ret : Ty) (x : Annotation) → Within a b → IsLawfulCallable a params ret x → IsLawfulCallable b params ret x
callable_grows a b params ret x w is = record {
  names = is.names;
  principal = is.principal;
  pre = All-weaker (IsLawfulAction a (named_before params)) (IsLawfulAction b (named_before params)) (λ y. action_grows a b (named_before params) y w) x.pre is.pre;
  post = posts_grow a b (named_behind params ret) x.pre x.post w is.post;
}

item_grows : (m n : ℕ) (x : Item) → m ≤ n → IsLawfulItem m x → IsLawfulItem n x
item_grows m n x le is = record {
  condition = is.condition;
  list = list_grows (record { reftypes = m; iterators = 0 }) (record { reftypes = n; iterators = 0 }) named_by_items x.cap (record { reftypes = le; iterators = omega arith }) is.list;
}

pub iterator_grows : (m n : ℕ) (x : CapIterator) → m ≤ n → IsLawfulIterator m x → IsLawfulIterator n x
iterator_grows m n x le is = record {
  some = is.some;
  few = is.few;
  items = All-weaker (IsLawfulItem m) (IsLawfulItem n) (λ y. item_grows m n y le) x.items is.items;
}
