-- What the definitions say, in other words.
use Rattle.std.specs.Prelude.{◌≡◌, ◌⊎◌, ℕ, true, false, Some, None, List, is_some, slice_get}
use Rattle.std.specs.List.{list_any}
use Rattle.lx_annot.specs.declared.action.CapSpec.{CapSpec}
use Rattle.lx_annot.specs.declared.action.CapSpec.TheVariants as spec
use Rattle.lx_annot.specs.declared.interface.Item.{Item}
use Rattle.lx_annot.specs.Action.{Action, Check, End}
use Rattle.lx_annot.specs.Expr.{Expr, Number}
use Rattle.lx_annot.specs.Items.{items_of}
use Rattle.lx_annot.specs.Lawful.{ArePosts, Declared, Nameable}
use Rattle.lx_model.specs.declared.program.Program.{Program}
use Rattle.lx_model.specs.Program.{function_at, home_of}
use Rattle.lx_surface.specs.declared.Thing.{Thing}
use Rattle.lx_surface.specs.declared.Thing.TheVariants.{RefType, Function}
use Rattle.lx_surface.specs.Names.{any_gives, gives, hands, gives_before, gives_behind, item_names, list_names}
use Rattle.lx_surface.specs.Reach.{Can}

-- a function of a module is given the thing before its body, or one of the kernel gives it behind its body
abbrev pub BringsFirst : Program → ℕ → Thing → Type 0
BringsFirst p f x = ((m : ℕ) × (home_of p f ≡ Some (Some m)) × (gives_before p f x ≡ true)) ⊎ ((home_of p f ≡ Some None) × (gives_behind p f x ≡ true))

pub record NamingLaws : Type 0 where
  -- a range of bytes, a check and the end of loans bring nothing
  pub range : (p : Program) (at size : Expr) (x : Thing) → list_names p (spec.Write at size) x ≡ false
  pub check : (p : Program) (list : CapSpec) (x : Thing) → gives p (Check list) x ≡ false
  pub ended : (p : Program) (k : ℕ) (x : Thing) → gives p (End k) x ≡ false
  -- a reference brings its type alone
  pub reference : (p : Program) (t : ℕ) (at : Expr) (x : Thing) → list_names p (spec.Ref t at) x ≡ true → x ≡ RefType t
  -- a call of a number brings the function at that address alone
  pub numbered : (p : Program) (a : ℕ) (x : Thing) → list_names p (spec.Call (Number a)) x ≡ true → (g : ℕ) × (x ≡ Function g) × (function_at p a ≡ Some g)
  -- an iterator brings what one of its items names
  pub iterator : (p : Program) (k : ℕ) (at : Expr) (x : Thing) → list_names p (spec.Each k at) x ≡ true
      → (j : ℕ) × (i : Item) × (slice_get (items_of (slice_get p.interface.iterators k)) j ≡ Some i) × (item_names p i.cap x ≡ true)
  -- behind the body a lawful annotation gives what it copies or transfers
  pub behind : (p : Program) (there : Declared) (may : Nameable) (pre post : List Action) (x : Thing) → ArePosts there may pre post → any_gives p post x ≡ list_any (λ (a : Action). hands p a x) post
  -- a function that can be held is defined
  pub defined : (p : Program) (m g : ℕ) → Can p m (Function g) → is_some (home_of p g) ≡ true
  -- a reference that can be held came in first by a function of a module before its body, or by one of the kernel behind its body
  pub origin : (p : Program) (m t : ℕ) → Can p m (RefType t) → (f : ℕ) × BringsFirst p f (RefType t)
