-- What the definitions say, in other words.
use Rattle.std.proofs.Common.{◌≡◌, ℕ, zero, suc, ◌<◌, Bool, true, false, Option, Some, None, inl, inr, List, [], ◌∷◌, get_or, length, slice_get, refl, sym, ap, subst, ◌∙◌, arith}
use Rattle.std.specs.Prelude.{All, ◌&&◌, ◌||◌, bytes_eq, codes, cond, is_some, option_and_then, position}
use Rattle.std.specs.List.{filter, list_any}
use Rattle.std.proofs.lemmas.Bool.{eqb-true, or_cases}
use Rattle.std.proofs.lemmas.List.Folds.{list_any-append}
use Rattle.std.proofs.lemmas.List.Quantifiers.{position-Some}
use Rattle.std.proofs.lemmas.Option.{slice_get-get_or}
use Rattle.lx_annot.specs.declared.action.CapSpec.{CapSpec}
use Rattle.lx_annot.specs.declared.action.CapSpec.TheVariants as spec
use Rattle.lx_annot.specs.declared.interface.Item.{Item}
use Rattle.lx_annot.specs.Action.{Action, Check, End, If, end_of, is_lend}
use Rattle.lx_annot.specs.Expr.{Expr, Number, Param, Return, Load64, Unary, Binary}
use Rattle.lx_annot.specs.Items.{items_of, list_of_action}
use Rattle.lx_annot.specs.Lawful.{ArePosts, Declared, IsLawfulBehind, Nameable}
use Rattle.lx_ir.specs.declared.module.Function.{Function as TextFunction}
use Rattle.lx_ir.specs.Lookup.{is_defined}
use Rattle.lx_model.specs.declared.program.Program.{Program}
use Rattle.lx_model.specs.declared.program.ProgramFunction.{ProgramFunction}
use Rattle.lx_model.specs.declared.program.ProgramFunction.TheVariants.{Native, Of}
use Rattle.lx_model.specs.Program.{Home, ToImport, ToNative, annotation_or_none, function_at, home_of, home_of_entry, is_entry, kernel_function, kernel_import, module_of, number_of, own, target_of}
use Rattle.lx_surface.specs.declared.Thing.{Thing}
use Rattle.lx_surface.specs.declared.Thing.TheVariants.{RefType, Function}
use Rattle.lx_surface.specs.Names.{any_gives, gives, hands, gives_before, gives_behind, is_number, item_names, list_names, names_function}
use Rattle.lx_surface.specs.Reach.{Can, declares, defines, from_kernel, from_other, into_own}
use Rattle.lx_surface.specs.Other.{BringsFirst}
use Rattle.lx_surface.proofs.Named.{is_defined_at}
use Rattle.lx_model.proofs.Homes.{own_named}

pub range : (p : Program) (at size : Expr) (x : Thing) → list_names p (spec.Write at size) x ≡ false
range p at size (RefType t) = refl
range p at size (Function g) = refl

pub reference : (p : Program) (t : ℕ) (at : Expr) (x : Thing) → list_names p (spec.Ref t at) x ≡ true → x ≡ RefType t
reference p t at (RefType u) is = ap RefType (eqb-true u t is)
reference p t at (Function g) is = absurd (cc)

number_at : (g : ℕ) (o : Option ℕ) → is_number g o ≡ true → o ≡ Some g
number_at g None is = absurd (cc)
number_at g (Some n) is = ap Some (sym (eqb-true g n is))

pub numbered : (p : Program) (a : ℕ) (x : Thing) → list_names p (spec.Call (Number a)) x ≡ true → (g : ℕ) × (x ≡ Function g) × (function_at p a ≡ Some g)
numbered p a (RefType t) is = absurd (cc)
numbered p a (Function g) is = (g, refl, number_at g (function_at p a) is)

-- an element that passes a test stands somewhere
somewhere : {A : Type 0} (test : A → Bool) (xs : List A) → list_any test xs ≡ true → (j : ℕ) × (y : A) × (slice_get xs j ≡ Some y) × (test y ≡ true)
somewhere test [] is = absurd (cc)
somewhere test (x ∷ xs) is = elim (or_cases (test x) (list_any test xs) is) [
  | inl here ↦ (0, x, refl, here)
  | inr later ↦ (let next = somewhere test xs later in (suc next.0, next.1, next.2, next.3))
]

pub iterator : (p : Program) (k : ℕ) (at : Expr) (x : Thing) → list_names p (spec.Each k at) x ≡ true
    → (j : ℕ) × (i : Item) × (slice_get (items_of (slice_get p.interface.iterators k)) j ≡ Some i) × (item_names p i.cap x ≡ true)
iterator p k at x is = somewhere (λ (i : Item). item_names p i.cap x) (items_of (slice_get p.interface.iterators k)) is

-- actions behind a body

plain : (p : Program) (a : Action) (x : Thing) → is_lend a ≡ false → gives p a x ≡ hands p a x
plain p (If e a) x is = plain p a x is
plain p a x is = cc

all_plain : (p : Program) (there : Declared) (may : Nameable) (actions : List Action) (x : Thing) → All (IsLawfulBehind there may) actions → any_gives p actions x ≡ list_any (λ (a : Action). hands p a x) actions
all_plain p there may [] x are = refl
all_plain p there may (a ∷ actions) x are =
    let first : IsLawfulBehind there may a = are 0 a (omega arith) in
    ap (λ b. b || any_gives p actions x) (plain p a x first.lends_nothing) ∙ ap (λ b. hands p a x || b) (all_plain p there may actions x (λ k d less. are (suc k) d (further less))) where
      further : {k n : ℕ} → k < n → suc k < suc n
      further h = omega (arith, h)

end_plain : (p : Program) (k : ℕ) (x : Thing) → any_gives p (end_of k) x ≡ list_any (λ (a : Action). hands p a x) (end_of k)
end_plain p zero x = refl
end_plain p (suc k) x = refl

pub behind : (p : Program) (there : Declared) (may : Nameable) (pre post : List Action) (x : Thing) → ArePosts there may pre post → any_gives p post x ≡ list_any (λ (a : Action). hands p a x) post
behind p there may pre post x are =
    let end = end_of (length (filter is_lend pre)) in
    ap (λ l. any_gives p l x) are.whole
    ∙ (list_any-append (λ (a : Action). gives p a x) are.written end
    ∙ (ap (λ b. b || any_gives p end x) (all_plain p there may are.written x are.lawful)
    ∙ (ap (λ b. list_any (λ (a : Action). hands p a x) are.written || b) (end_plain p (length (filter is_lend pre)) x)
    ∙ (sym (list_any-append (λ (a : Action). hands p a x) are.written end) ∙ ap (λ l. list_any (λ (a : Action). hands p a x) l) (sym are.whole)))))

-- functions that are named are defined

expression_defined : (p : Program) (at : Expr) (g : ℕ) → names_function p at g ≡ true → is_some (home_of p g) ≡ true
expression_defined p (Number a) g is = is_defined_at p a g (number_at g (function_at p a) is)
expression_defined p (Param k ty) g is = is
expression_defined p (Return ty) g is = is
expression_defined p (Load64 e) g is = is
expression_defined p (Unary m e) g is = is
expression_defined p (Binary m a b) g is = is

item_defined : (p : Program) (list : CapSpec) (g : ℕ) → item_names p list (Function g) ≡ true → is_some (home_of p g) ≡ true
item_defined p (spec.Write a n) g is = absurd (cc)
item_defined p (spec.Call at) g is = expression_defined p at g is
item_defined p (spec.Ref t at) g is = absurd (cc)
item_defined p (spec.Each k at) g is = absurd (cc)

list_defined : (p : Program) (list : CapSpec) (g : ℕ) → list_names p list (Function g) ≡ true → is_some (home_of p g) ≡ true
list_defined p (spec.Write a n) g is = absurd (cc)
list_defined p (spec.Call at) g is = item_defined p (spec.Call at) g is
list_defined p (spec.Ref t at) g is = absurd (cc)
list_defined p (spec.Each k at) g is = let found = iterator p k at (Function g) is in item_defined p found.1.cap g found.3

action_defined : (p : Program) (a : Action) (g : ℕ) → gives p a (Function g) ≡ true → is_some (home_of p g) ≡ true
action_defined p (Check list) g is = absurd (cc)
action_defined p (End k) g is = absurd (cc)
action_defined p (If e a) g is = action_defined p a g is
action_defined p a g is = list_defined p (list_of_action a) g is

any_defined : (p : Program) (actions : List Action) (g : ℕ) → any_gives p actions (Function g) ≡ true → is_some (home_of p g) ≡ true
any_defined p actions g is = let found = somewhere (λ (a : Action). gives p a (Function g)) actions is in action_defined p found.1 g found.3

-- a function that is declared is defined

through : (f : ℕ → Option ℕ) (o : Option ℕ) (g : ℕ) → option_and_then f o ≡ Some g → (k : ℕ) × (f k ≡ Some g)
through f None g is = absurd (cc)
through f (Some k) g is = (k, is)

kernel_named : (o : Option ℕ) (g : ℕ) → kernel_import o ≡ ToImport g → o ≡ Some g
kernel_named None g is = absurd (cc)
kernel_named (Some n) g is = cc

by_tests : (defined alias : Bool) (n o : Option ℕ) (g : ℕ) → cond defined (own n) (cond alias (ToNative 5) (kernel_import o)) ≡ ToImport g → o ≡ Some g
by_tests true alias n o g is = absurd (own_named n g is)
by_tests false true n o g is = absurd (cc)
by_tests false false n o g is = kernel_named o g is

entry_home : (home : Home) (f : ℕ) (e : ProgramFunction) → is_entry home f e ≡ true → is_some (home_of_entry (Some e)) ≡ true
entry_home home f (Native k) is = absurd (cc)
entry_home home f (Of other g) is = refl

number_defined : (p : Program) (home : Home) (f n : ℕ) → number_of p home f ≡ Some n → is_some (home_of p n) ≡ true
number_defined p home f n is =
    let there = position-Some (is_entry home f) p.functions n (Native 0) is in
    ap (λ e. is_some (home_of_entry e)) (slice_get-get_or p.functions n (Native 0) there.0) ∙ entry_home home f (get_or p.functions n (Native 0)) there.1

import_defined : (p : Program) (m f g : ℕ) (o : Option TextFunction) → target_of p (Some m) f o ≡ ToImport g → is_some (home_of p g) ≡ true
import_defined p m f g None is = absurd (cc)
import_defined p m f g (Some h) is =
    let named = by_tests (is_defined h) (bytes_eq h.name (codes "lxfi_princ_alias")) (number_of p (Some m) f) (kernel_function p h.name) g is in
    let found = through (number_of p None) (position (λ (k : TextFunction). is_defined k && bytes_eq k.name h.name) p.kernel.functions) g named in
    number_defined p None found.0 g found.1

-- what a module can hold

is_home : (p : Program) (g : ℕ) (home : Home) → home_of p g ≡ Some home → is_some (home_of p g) ≡ true
is_home p g home is = ap is_some is

named : (f g : ℕ) → Function f ≡ Function g → f ≡ g
named f g e = cc

before_defined : (p : Program) (f : ℕ) (x : Thing) (g : ℕ) → gives_before p f x ≡ true → x ≡ Function g → is_some (home_of p g) ≡ true
before_defined p f x g gives same = any_defined p (annotation_or_none p f).pre g (ap (gives_before p f) (sym same) ∙ gives)

behind_defined : (p : Program) (f : ℕ) (x : Thing) (g : ℕ) → gives_behind p f x ≡ true → x ≡ Function g → is_some (home_of p g) ≡ true
behind_defined p f x g gives same = any_defined p (annotation_or_none p f).post g (ap (gives_behind p f) (sym same) ∙ gives)

thing_defined : (p : Program) (m : ℕ) (x : Thing) → Can p m x → (g : ℕ) → x ≡ Function g → is_some (home_of p g) ≡ true
thing_defined p i y (defines m h is) g same = subst (λ n. is_some (home_of p n) ≡ true) (named h g same) (is_home p h (Some m) is)
thing_defined p i y (declares m f h is) g same = subst (λ n. is_some (home_of p n) ≡ true) (named h g same) (import_defined p m f h (slice_get (module_of p (Some m)).functions f) is)
thing_defined p i y (into_own m f x is gives) g same = before_defined p f x g gives same
thing_defined p i y (from_kernel m f x is can gives) g same = behind_defined p f x g gives same
thing_defined p i y (from_other m k f x is can gives come) g same = behind_defined p f x g gives same

pub defined : (p : Program) (m g : ℕ) → Can p m (Function g) → is_some (home_of p g) ≡ true
defined p m g can = thing_defined p m (Function g) can g refl

first_of : (p : Program) (m : ℕ) (x : Thing) → Can p m x → (t : ℕ) → x ≡ RefType t → (f : ℕ) × BringsFirst p f x
first_of p i y (defines m h is) t same = absurd (cc)
first_of p i y (declares m f h is) t same = absurd (cc)
first_of p i y (into_own m f x is gives) t same = (f, inl (m, is, gives))
first_of p i y (from_kernel m f x is can gives) t same = (f, inr (is, gives))
first_of p i y (from_other m k f x is can gives come) t same = first_of p k x come t same

pub origin : (p : Program) (m t : ℕ) → Can p m (RefType t) → (f : ℕ) × BringsFirst p f (RefType t)
origin p m t can = first_of p m (RefType t) can t refl
