-- What is given.
use Rattle.std.proofs.Common.{◌≡◌, ℕ, ◌+◌, ◌<◌, ◌≤◌, Bool, true, false, Option, Some, None, inl, inr, List, [], ◌++◌, drop, get_or, length, refl, sym, ap, subst, ◌∙◌, arith}
use Rattle.std.specs.Prelude.{◌&&◌, ◌||◌, is_some, nat_eq, nat_lt, slice_get, unwrap_or, if◌then◌else◌, ⊤}
use Rattle.std.specs.List.{list_any}
use Rattle.std.proofs.lemmas.Bool.{and_from, and_parts, or_cases, or_left, or_right}
use Rattle.std.proofs.lemmas.Bool.Decides.{nat_tests}
use Rattle.std.proofs.lemmas.List.{drop_all}
use Rattle.std.proofs.lemmas.Option.{slice_get_within}
use Rattle.lx_words.proofs.Lists.{rest_at}
use Rattle.lx_annot.specs.declared.action.Annotation.{Annotation}
use Rattle.lx_annot.specs.declared.action.CapSpec.{CapSpec}
use Rattle.lx_annot.specs.declared.action.CapSpec.TheVariants as spec
use Rattle.lx_annot.specs.declared.interface.CapIterator.{CapIterator}
use Rattle.lx_annot.specs.declared.interface.Item.{Item}
use Rattle.lx_annot.specs.Action.{Action, If}
use Rattle.lx_annot.specs.Expr.{Expr, Number, Param, Return, Load64, Unary, Binary}
use Rattle.lx_annot.specs.Items.{items_of, list_items}
use Rattle.lx_model.specs.declared.program.Program.{Program}
use Rattle.lx_model.specs.declared.program.ProgramFunction.{ProgramFunction}
use Rattle.lx_model.specs.Program.{Home, annotation_of, function_at, home_of, home_of_entry, no_annotation}
use Rattle.lx_surface.specs.declared.Thing.{Thing}
use Rattle.lx_surface.specs.declared.Thing.TheVariants.{RefType, Function}
use Rattle.lx_surface.specs.Names.{any_gives, gives, gives_before, gives_behind, is_number, item_names, list_names, names_function}
use Rattle.lx_surface.specs.Reach.{Can}
use Rattle.lx_surface.specs.declared.work.Work.{Work}
use Rattle.lx_surface.specs.Given.{Gave}
use Rattle.lx_surface.specs.Marks.{Mark, has_mark, with_mark}
use Rattle.lx_surface.specs.Naming.{any_names, call_names, given_list, is_any_function, is_function_at, is_function_below, is_thing, iterator_in, number_in, one_item_names, whole_names}
use Rattle.lx_surface.specs.Right.{May}
use Rattle.lx_surface.specs.Work.{given, is_given}
use Rattle.lx_surface.proofs.Rights.{from_grows, from_right, given_more, grows_on, mark_grows, mark_right, put_grows, put_right, same_grows}
use Rattle.lx_surface.proofs.Sets.{itself, same_thing, thing_there}
use Rattle.lx_surface.proofs.Tables.{wait_there}

-- one thing

one_by : (p : Program) (w : Work) (m : ℕ) (from : Option ℕ) (x : Thing) → Gave p w (given w m from x) m from (is_thing x)
one_by p w m None x = record {
  grows = put_grows w m x;
  right = λ i j right may. put_right p i j w m x right (may x (itself x) tt);
  has = λ i j right may y named. subst (λ z. is_given (given w m None x) m None z ≡ true) (same_thing x y named) (thing_there w.bound m x);
}
one_by p w m (Some k) x = record {
  grows = from_grows w m k x;
  right = λ i j right may. from_right p i j w m k x right (may x (itself x));
  has = λ i j right may y named. subst (λ z. is_given (given w m (Some k) x) m (Some k) z ≡ true) (same_thing x y named) (wait_there w.waits m k x);
}

pub one_given : (p : Program) (old new : Work) (m : ℕ) (from : Option ℕ) (x : Thing) → new ≡ given old m from x → Gave p old new m from (is_thing x)
one_given p old new m from x is = subst (λ w. Gave p old w m from (is_thing x)) (sym is) (one_by p old m from x)

-- nothing, and more

pub nothing_given : (p : Program) (w : Work) (m : ℕ) (from : Option ℕ) (names : Thing → Bool) → ((x : Thing) → names x ≡ false) → Gave p w w m from names
nothing_given p w m from names never_named = record {
  grows = same_grows w;
  right = λ i j right may. right;
  has = λ i j right may x named. let never : false ≡ true = sym (never_named x) ∙ named in absurd (cc);
}

pub same_given : (p : Program) (a b : Work) (m : ℕ) (from : Option ℕ) (some names : Thing → Bool) → Gave p a b m from some → ((x : Thing) → names x ≡ some x) → Gave p a b m from names
same_given p a b m from some names gave same = record {
  grows = gave.grows;
  right = λ i j right may. gave.right i j right (less may);
  has = λ i j right may x named. gave.has i j right (less may) x (sym (same x) ∙ named);
} where
  less : May p m from names → May p m from some
  less may x named = may x (same x ∙ named)

pub more_given : (p : Program) (a b c : Work) (m : ℕ) (from : Option ℕ) (some more names : Thing → Bool) → Gave p a b m from some → Gave p b c m from more → ((x : Thing) → names x ≡ (some x || more x)) → Gave p a c m from names
more_given p a b c m from some more names first next both = record {
  grows = grows_on a b c first.grows next.grows;
  right = λ i j right may. next.right i j (first.right i j right (may_first may)) (may_next may);
  has = λ i j right may x named. elim (or_cases (some x) (more x) (sym (both x) ∙ named)) [
    | inl here ↦ given_more b c m from x next.grows (first.has i j right (may_first may) x here)
    | inr there ↦ next.has i j (first.right i j right (may_first may)) (may_next may) x there
  ];
} where
  may_first : May p m from names → May p m from some
  may_first may x named = may x (both x ∙ or_left (some x) (more x) named)

  may_next : May p m from names → May p m from more
  may_next may x named = may x (both x ∙ or_right (some x) (more x) named)

-- what is given whole

pub given_whole : (p : Program) (w : Work) (m : ℕ) (from l : Option ℕ) → has_mark w.marks m from l ≡ true → Gave p w w m from (whole_names p l)
given_whole p w m from l marked = record {
  grows = same_grows w;
  right = λ i j right may. right;
  has = λ i j right may x named. right.whole m from l x marked named;
}

pub all_given : (p : Program) (a b c : Work) (m : ℕ) (from l : Option ℕ) → Gave p a b m from (whole_names p l) → c ≡ record b { marks = with_mark b.marks m from l } → Gave p a c m from (whole_names p l)
all_given p a b c m from l gave is = subst (λ w. Gave p a w m from (whole_names p l)) (sym is) (record {
  grows = grows_on a b marked gave.grows (mark_grows b m from l);
  right = λ i j right may. mark_right p i j b m from l (gave.right i j right may) (gave.has i j right may);
  has = λ i j right may x named. given_more b marked m from x (mark_grows b m from l) (gave.has i j right may x named);
}) where
  marked : Work
  marked = record b { marks = with_mark b.marks m from l }

pub marked : (b : Work) (marks : List Mark) (m : ℕ) (from l : Option ℕ) → marks ≡ with_mark b.marks m from l → (record b { marks = marks }) ≡ (record b { marks = with_mark b.marks m from l })
marked b marks m from l is = ap (λ xs. record b { marks = xs }) is

pub any_whole : (p : Program) (a b : Work) (m : ℕ) (from : Option ℕ) → Gave p a b m from (whole_names p None) → Gave p a b m from (is_any_function p)
any_whole p a b m from gave = same_given p a b m from (whole_names p None) (is_any_function p) gave (λ x. refl)

pub whole_any : (p : Program) (a b : Work) (m : ℕ) (from : Option ℕ) → Gave p a b m from (is_any_function p) → Gave p a b m from (whole_names p None)
whole_any p a b m from gave = same_given p a b m from (is_any_function p) (whole_names p None) gave (λ x. refl)

-- lists

pub step_given : {X : Type 0} (p : Program) (a b c : Work) (m : ℕ) (from : Option ℕ) (test : X → Thing → Bool) (xs : List X) (i : ℕ) (x : X) → i < length xs → x ≡ get_or xs i x → Gave p a b m from (test x)
    → Gave p b c m from (any_names test (drop (i + 1) xs)) → Gave p a c m from (any_names test (drop i xs))
step_given p a b c m from test xs i x less is first next =
    more_given p a b c m from (test x) (any_names test (drop (i + 1) xs)) (any_names test (drop i xs)) first next (λ y. ap (λ l. any_names test l y) (rest_at xs i x less is))

pub end_given : {X : Type 0} (p : Program) (b : Work) (m : ℕ) (from : Option ℕ) (test : X → Thing → Bool) (xs : List X) (i : ℕ) → length xs ≤ i → Gave p b b m from (any_names test (drop i xs))
end_given p b m from test xs i most = nothing_given p b m from (any_names test (drop i xs)) (λ y. ap (λ l. any_names test l y) (drop_all i xs most))

-- functions

at_none : (p : Program) (n : ℕ) (o : Option Home) (x : Thing) → o ≡ None → (is_some o && is_thing (Function n) x) ≡ false
at_none p n None x is = refl
at_none p n (Some home) x is = absurd (cc)

pub no_function : (p : Program) (b : Work) (m : ℕ) (from : Option ℕ) (n : ℕ) → home_of p n ≡ None → Gave p b b m from (is_function_at p n)
no_function p b m from n is = nothing_given p b m from (is_function_at p n) (λ x. at_none p n (home_of p n) x is)

pub this_function : (p : Program) (a b : Work) (m : ℕ) (from : Option ℕ) (n : ℕ) (home : Home) → home_of p n ≡ Some home → Gave p a b m from (is_thing (Function n)) → Gave p a b m from (is_function_at p n)
this_function p a b m from n home is gave = same_given p a b m from (is_thing (Function n)) (is_function_at p n) gave (λ x. ap (λ o. is_some o && is_thing (Function n) x) is)

none_below : (p : Program) (x : Thing) → is_function_below p 0 x ≡ false
none_below p (RefType t) = refl
none_below p (Function g) = by (nat_lt g 0) (is_some (home_of p g)) (grind (arith, nat_tests)) where
  by : (a b : Bool) → a ≡ false → (a && b) ≡ false
  by a b e = ap (λ c. c && b) e

pub first_function : (p : Program) (b : Work) (m : ℕ) (from : Option ℕ) → Gave p b b m from (is_function_below p 0)
first_function p b m from = nothing_given p b m from (is_function_below p 0) (none_below p)

same_case : (more less a b : Bool) → more ≡ true → less ≡ false → a ≡ b → (more && a) ≡ (less && a || (b && true))
same_case true false true true e f g = refl
same_case true false false false e f g = refl
same_case true false true false e f g = absurd (cc)
same_case true false false true e f g = absurd (cc)
same_case true true a b e f g = absurd (cc)
same_case false less a b e f g = absurd (cc)

other_case : (more less a b : Bool) → more ≡ less → (more && a) ≡ (less && a || (b && false))
other_case true true true b e = refl
other_case true true false true e = refl
other_case true true false false e = refl
other_case false false a true e = refl
other_case false false a false e = refl
other_case true false a b e = absurd (cc)
other_case false true a b e = absurd (cc)

below_more : (p : Program) (n : ℕ) (x : Thing) → is_function_below p (n + 1) x ≡ (is_function_below p n x || is_function_at p n x)
below_more p n (RefType t) = by (is_some (home_of p n)) where
  by : (b : Bool) → false ≡ (false || (b && false))
  by true = refl
  by false = refl
below_more p n (Function g) = by (nat_eq n g) refl where
  by : (b : Bool) → nat_eq n g ≡ b → (nat_lt g (n + 1) && is_some (home_of p g)) ≡ (nat_lt g n && is_some (home_of p g) || (is_some (home_of p n) && b))
  by true is =
      let same : g ≡ n = grind (arith, nat_tests, is) in
      same_case (nat_lt g (n + 1)) (nat_lt g n) (is_some (home_of p g)) (is_some (home_of p n)) (grind (arith, nat_tests, same)) (grind (arith, nat_tests, same)) (ap (λ k. is_some (home_of p k)) same)
  by false is = other_case (nat_lt g (n + 1)) (nat_lt g n) (is_some (home_of p g)) (is_some (home_of p n)) (grind (arith, nat_tests, is))

pub next_function : (p : Program) (a b c : Work) (m : ℕ) (from : Option ℕ) (n : ℕ) → Gave p a b m from (is_function_below p n) → Gave p b c m from (is_function_at p n) → Gave p a c m from (is_function_below p (n + 1))
next_function p a b c m from n first next = more_given p a b c m from (is_function_below p n) (is_function_at p n) (is_function_below p (n + 1)) first next (below_more p n)

kept_by : (a b : Bool) → (b ≡ true → a ≡ true) → b ≡ (a && b)
kept_by true b h = refl
kept_by false true h = sym (h refl)
kept_by false false h = refl

lower : (p : Program) (n g : ℕ) (o : Option ProgramFunction) → length p.functions ≤ n → slice_get p.functions g ≡ o → is_some (home_of_entry o) ≡ true → nat_lt g n ≡ true
lower p n g None most at is = absurd (cc)
lower p n g (Some e) most at is = let less = slice_get_within p.functions g e at in grind (arith, nat_tests, most, less)

all_below : (p : Program) (n : ℕ) (x : Thing) → length p.functions ≤ n → is_any_function p x ≡ is_function_below p n x
all_below p n (RefType t) most = refl
all_below p n (Function g) most = kept_by (nat_lt g n) (is_some (home_of p g)) (lower p n g (slice_get p.functions g) most refl)

pub all_functions : (p : Program) (a b : Work) (m : ℕ) (from : Option ℕ) (n : ℕ) → length p.functions ≤ n → Gave p a b m from (is_function_below p n) → Gave p a b m from (is_any_function p)
all_functions p a b m from n most gave = same_given p a b m from (is_function_below p n) (is_any_function p) gave (λ x. all_below p n x most)

-- calls

number_is : (p : Program) (a n g : ℕ) → function_at p a ≡ Some n → is_number g (function_at p a) ≡ nat_eq n g
number_is p a n g is = ap (is_number g) is ∙ turned g n where
  turned : (g n : ℕ) → nat_eq g n ≡ nat_eq n g
  turned g n = grind (arith, nat_tests)

numbered_name : (p : Program) (a n : ℕ) (x : Thing) → function_at p a ≡ Some n → call_names p (Number a) x ≡ is_thing (Function n) x
numbered_name p a n (RefType t) is = refl
numbered_name p a n (Function g) is = number_is p a n g is

pub numbered_call : (p : Program) (b c : Work) (m : ℕ) (from : Option ℕ) (a n : ℕ) → function_at p a ≡ Some n → Gave p b c m from (is_thing (Function n)) → Gave p b c m from (call_names p (Number a))
numbered_call p b c m from a n is gave = same_given p b c m from (is_thing (Function n)) (call_names p (Number a)) gave (λ x. numbered_name p a n x is)

unnumbered_name : (p : Program) (a : ℕ) (x : Thing) → function_at p a ≡ None → call_names p (Number a) x ≡ false
unnumbered_name p a (RefType t) is = refl
unnumbered_name p a (Function g) is = ap (is_number g) is

pub no_call : (p : Program) (b : Work) (m : ℕ) (from : Option ℕ) (a : ℕ) → function_at p a ≡ None → Gave p b b m from (call_names p (Number a))
no_call p b m from a is = nothing_given p b m from (call_names p (Number a)) (λ x. unnumbered_name p a x is)

is_number_in : (e : Expr) (a : ℕ) → number_in e ≡ Some a → e ≡ Number a
is_number_in (Number b) a is = ap Number (same is) where
  same : Some b ≡ Some a → b ≡ a
  same e = cc
is_number_in (Param k ty) a is = absurd (cc)
is_number_in (Return ty) a is = absurd (cc)
is_number_in (Load64 e) a is = absurd (cc)
is_number_in (Unary m e) a is = absurd (cc)
is_number_in (Binary m e f) a is = absurd (cc)

pub number_call : (p : Program) (b c : Work) (m : ℕ) (from : Option ℕ) (e : Expr) (a : ℕ) → number_in e ≡ Some a → Gave p b c m from (call_names p (Number a)) → Gave p b c m from (call_names p e)
number_call p b c m from e a is gave = same_given p b c m from (call_names p (Number a)) (call_names p e) gave (λ x. ap (λ d. call_names p d x) (is_number_in e a is))

any_name : (p : Program) (e : Expr) (x : Thing) → number_in e ≡ None → call_names p e x ≡ is_any_function p x
any_name p e (RefType t) is = refl
any_name p (Number a) (Function g) is = absurd (cc)
any_name p (Param k ty) (Function g) is = refl
any_name p (Return ty) (Function g) is = refl
any_name p (Load64 e) (Function g) is = refl
any_name p (Unary m e) (Function g) is = refl
any_name p (Binary m a b) (Function g) is = refl

pub any_call : (p : Program) (b c : Work) (m : ℕ) (from : Option ℕ) (e : Expr) → number_in e ≡ None → Gave p b c m from (is_any_function p) → Gave p b c m from (call_names p e)
any_call p b c m from e is gave = same_given p b c m from (is_any_function p) (call_names p e) gave (λ x. any_name p e x is)

-- items and lists

call_name : (p : Program) (e : Expr) (x : Thing) → item_names p (spec.Call e) x ≡ call_names p e x
call_name p e (RefType t) = refl
call_name p e (Function g) = refl

pub call_item : (p : Program) (b c : Work) (m : ℕ) (from : Option ℕ) (i : CapSpec) (e : Expr) → i ≡ spec.Call e → Gave p b c m from (call_names p e) → Gave p b c m from (item_names p i)
call_item p b c m from i e is gave = same_given p b c m from (call_names p e) (item_names p i) gave (λ x. ap (λ j. item_names p j x) is ∙ call_name p e x)

ref_name : (p : Program) (t : ℕ) (e : Expr) (x : Thing) → item_names p (spec.Ref t e) x ≡ is_thing (RefType t) x
ref_name p t e (RefType u) = turned u t where
  turned : (g n : ℕ) → nat_eq g n ≡ nat_eq n g
  turned g n = grind (arith, nat_tests)
ref_name p t e (Function g) = refl

pub ref_item : (p : Program) (b c : Work) (m : ℕ) (from : Option ℕ) (i : CapSpec) (t : ℕ) (e : Expr) → i ≡ spec.Ref t e → Gave p b c m from (is_thing (RefType t)) → Gave p b c m from (item_names p i)
ref_item p b c m from i t e is gave = same_given p b c m from (is_thing (RefType t)) (item_names p i) gave (λ x. ap (λ j. item_names p j x) is ∙ ref_name p t e x)

-- an item that names nothing by itself
abbrev pub NamesNothing : CapSpec → Type 0
NamesNothing (spec.Write a n) = ⊤
NamesNothing (spec.Call e) = ⊥
NamesNothing (spec.Ref t e) = ⊥
NamesNothing (spec.Each k e) = ⊤

no_name : (p : Program) (i : CapSpec) (x : Thing) → NamesNothing i → item_names p i x ≡ false
no_name p (spec.Write a n) (RefType t) is = refl
no_name p (spec.Write a n) (Function g) is = refl
no_name p (spec.Call e) x is = absurd is
no_name p (spec.Ref t e) x is = absurd is
no_name p (spec.Each k e) (RefType t) is = refl
no_name p (spec.Each k e) (Function g) is = refl

pub no_item : (p : Program) (b : Work) (m : ℕ) (from : Option ℕ) (i : CapSpec) → NamesNothing i → Gave p b b m from (item_names p i)
no_item p b m from i is = nothing_given p b m from (item_names p i) (λ x. no_name p i x is)

pub no_iterator : (p : Program) (b : Work) (m : ℕ) (from : Option ℕ) (k : ℕ) → slice_get p.interface.iterators k ≡ None → Gave p b b m from (whole_names p (Some k))
no_iterator p b m from k is = nothing_given p b m from (whole_names p (Some k)) (λ x. ap (λ u. any_names (one_item_names p) (items_of u) x) is)

pub this_iterator : (p : Program) (b c : Work) (m : ℕ) (from : Option ℕ) (k : ℕ) (it : CapIterator) → slice_get p.interface.iterators k ≡ Some it → Gave p b c m from (any_names (one_item_names p) it.items)
    → Gave p b c m from (whole_names p (Some k))
this_iterator p b c m from k it is gave =
    same_given p b c m from (any_names (one_item_names p) it.items) (whole_names p (Some k)) gave (λ x. ap (λ u. any_names (one_item_names p) (items_of u) x) is)

is_iterator_in : (p : Program) (l : CapSpec) (k : ℕ) (x : Thing) → iterator_in l ≡ Some k → list_names p l x ≡ whole_names p (Some k) x
is_iterator_in p (spec.Write a n) k x is = absurd (cc)
is_iterator_in p (spec.Call e) k x is = absurd (cc)
is_iterator_in p (spec.Ref t e) k x is = absurd (cc)
is_iterator_in p (spec.Each n e) k x is = ap (λ i. whole_names p (Some i) x) (same is) where
  same : Some n ≡ Some k → n ≡ k
  same e = cc

pub each_list : (p : Program) (b c : Work) (m : ℕ) (from : Option ℕ) (l : CapSpec) (k : ℕ) → iterator_in l ≡ Some k → Gave p b c m from (whole_names p (Some k)) → Gave p b c m from (list_names p l)
each_list p b c m from l k is gave = same_given p b c m from (whole_names p (Some k)) (list_names p l) gave (λ x. is_iterator_in p l k x is)

one_name : (p : Program) (l : CapSpec) (x : Thing) → iterator_in l ≡ None → list_names p l x ≡ item_names p l x
one_name p (spec.Write a n) x is = refl
one_name p (spec.Call e) x is = refl
one_name p (spec.Ref t e) x is = refl
one_name p (spec.Each k e) x is = absurd (cc)

pub item_list : (p : Program) (b c : Work) (m : ℕ) (from : Option ℕ) (l : CapSpec) → iterator_in l ≡ None → Gave p b c m from (item_names p l) → Gave p b c m from (list_names p l)
item_list p b c m from l is gave = same_given p b c m from (item_names p l) (list_names p l) gave (λ x. one_name p l x is)

-- actions

abbrev list_or_none : Program → Option CapSpec → Thing → Bool
list_or_none p None x = false
list_or_none p (Some l) x = list_names p l x

given_name : (p : Program) (a : Action) (x : Thing) → gives p a x ≡ list_or_none p (given_list a) x
given_name p (If e a) x = given_name p a x
given_name p a x = refl

pub no_list : (p : Program) (b : Work) (m : ℕ) (from : Option ℕ) (a : Action) → given_list a ≡ None → Gave p b b m from (gives p a)
no_list p b m from a is = nothing_given p b m from (gives p a) (λ x. given_name p a x ∙ ap (λ o. list_or_none p o x) is)

pub this_list : (p : Program) (b c : Work) (m : ℕ) (from : Option ℕ) (a : Action) (l : CapSpec) → given_list a ≡ Some l → Gave p b c m from (list_names p l) → Gave p b c m from (gives p a)
this_list p b c m from a l is gave = same_given p b c m from (list_names p l) (gives p a) gave (λ x. given_name p a x ∙ ap (λ o. list_or_none p o x) is)

-- annotations

pub nothing_before : (p : Program) (b : Work) (m : ℕ) (from : Option ℕ) (f : ℕ) → annotation_of p f ≡ None → Gave p b b m from (gives_before p f)
nothing_before p b m from f is = nothing_given p b m from (gives_before p f) (λ x. ap (λ o. any_gives p (unwrap_or o no_annotation).pre x) is)

pub those_before : (p : Program) (b c : Work) (m : ℕ) (from : Option ℕ) (f : ℕ) (a : Annotation) → annotation_of p f ≡ Some a → Gave p b c m from (any_gives p a.pre) → Gave p b c m from (gives_before p f)
those_before p b c m from f a is gave = same_given p b c m from (any_gives p a.pre) (gives_before p f) gave (λ x. ap (λ o. any_gives p (unwrap_or o no_annotation).pre x) is)

pub nothing_behind : (p : Program) (b : Work) (m : ℕ) (from : Option ℕ) (f : ℕ) → annotation_of p f ≡ None → Gave p b b m from (gives_behind p f)
nothing_behind p b m from f is = nothing_given p b m from (gives_behind p f) (λ x. ap (λ o. any_gives p (unwrap_or o no_annotation).post x) is)

pub those_behind : (p : Program) (b c : Work) (m : ℕ) (from : Option ℕ) (f : ℕ) (a : Annotation) → annotation_of p f ≡ Some a → Gave p b c m from (any_gives p a.post) → Gave p b c m from (gives_behind p f)
those_behind p b c m from f a is gave = same_given p b c m from (any_gives p a.post) (gives_behind p f) gave (λ x. ap (λ o. any_gives p (unwrap_or o no_annotation).post x) is)
