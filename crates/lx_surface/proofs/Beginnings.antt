-- What modules can call at the beginning.
use Rattle.std.proofs.Common.{◌≡◌, ℕ, zero, suc, ◌+◌, ◌<◌, ◌≤◌, Bool, true, false, Option, Some, None, inl, inr, List, [], ◌∷◌, drop, get_or, length, slice_get, refl, sym, ap, subst, ◌∙◌, arith}
use Rattle.std.specs.Prelude.{◌⊎◌, cond, bytes_eq, codes, unwrap_or, if◌then◌else◌, ⊤}
use Rattle.std.proofs.lemmas.Bool.{cases_lt}
use Rattle.std.proofs.lemmas.List.{drop_all}
use Rattle.std.proofs.lemmas.Option.{slice_get_past}
use Rattle.lx_words.proofs.Tests.{below_next}
use Rattle.lx_words.proofs.Lists.{rest_at}
use Rattle.lx_ir.specs.declared.module.Function.{Function as TextFunction}
use Rattle.lx_ir.specs.declared.module.Module.{Module}
use Rattle.lx_ir.specs.Lookup.{is_defined}
use Rattle.lx_model.specs.declared.program.Program.{Program}
use Rattle.lx_model.specs.Program.{Home, Target, ToNative, ToSlot, ToImport, ToOwn, Nowhere, empty_module, home_of, home_of_entry, kernel_function, kernel_import, import, module_of, module_or_empty, number_of, own, target, target_of}
use Rattle.lx_surface.specs.declared.Thing.{Thing}
use Rattle.lx_surface.specs.declared.Thing.TheVariants.{Function}
use Rattle.lx_surface.specs.Names.{gives_before}
use Rattle.lx_surface.specs.Reach.{Can, declares, defines, into_own}
use Rattle.lx_surface.specs.declared.work.Work.{Work}
use Rattle.lx_surface.specs.Bound.{allows}
use Rattle.lx_surface.specs.Begun.{Declares, DeclaresAll, DeclaresFrom, HasOwn, Opens, OpensAll, declared_in}
use Rattle.lx_surface.specs.Given.{Gave}
use Rattle.lx_surface.specs.Right.{IsRight}
use Rattle.lx_surface.specs.Work.{Grows, given}
use Rattle.lx_surface.proofs.Rights.{grows_on, put_grows, put_right, same_grows}
use Rattle.lx_surface.proofs.Sets.{allows_more, thing_there}
use Rattle.lx_model.proofs.Homes.{own_named}

-- functions that modules define

pub own_opened : (p : Program) (a b c : Work) (m n : ℕ) → home_of p n ≡ Some (Some m) → b ≡ given a m None (Function n) → Gave p b c m None (gives_before p n) → Opens p a c n
own_opened p a b c m n is put gave = record {
  grows = grows_on a b c first gave.grows;
  right = λ right. gave.right 0 0 (begun right) may;
  has = λ right. has right;
} where
  first : Grows a b
  first = subst (Grows a) (sym put) (put_grows a m (Function n))

  begun : IsRight p 0 0 a → IsRight p 0 0 b
  begun right = subst (IsRight p 0 0) (sym put) (put_right p 0 0 a m (Function n) right (defines m n is))

  may : (x : Thing) → gives_before p n x ≡ true → ⊤ → Can p m x
  may x gives come = into_own m n x is gives

  there : allows c.bound m (Function n) ≡ true
  there = allows_more b.bound c.bound m (Function n) gave.grows.bound (subst (λ (d : Work). allows d.bound m (Function n) ≡ true) (sym put) (thing_there a.bound m (Function n)))

  all : IsRight p 0 0 a → (x : Thing) → gives_before p n x ≡ true → allows c.bound m x ≡ true
  all right x gives = gave.has 0 0 (begun right) may x gives

  has : IsRight p 0 0 a → HasOwn p c n
  has right k home = let same : m ≡ k = by (sym is ∙ home) in subst (λ i. (allows c.bound i (Function n) ≡ true) × ((x : Thing) → gives_before p n x ≡ true → allows c.bound i x ≡ true)) same (there, all right) where
    by : Some (Some m) ≡ Some (Some k) → m ≡ k
    by e = cc

not_own : (o : Option Home) (m : ℕ) → (o ≡ Some None) ⊎ (o ≡ None) → o ≡ Some (Some m) → ⊥
not_own o m (inl none) is = let never : Some None ≡ Some (Some m) = sym none ∙ is in absurd (cc)
not_own o m (inr none) is = let never : None ≡ Some (Some m) = sym none ∙ is in absurd (cc)

not_opened_by : (p : Program) (b : Work) (n : ℕ) → (home_of p n ≡ Some None) ⊎ (home_of p n ≡ None) → Opens p b b n
not_opened_by p b n is = record { grows = same_grows b; right = λ right. right; has = λ right m home. absurd (not_own (home_of p n) m is home) }

pub kernels_own : (p : Program) (b : Work) (n : ℕ) → home_of p n ≡ Some None → Opens p b b n
kernels_own p b n is = not_opened_by p b n (inl is)

pub of_no_text : (p : Program) (b : Work) (n : ℕ) → home_of p n ≡ None → Opens p b b n
of_no_text p b n is = not_opened_by p b n (inr is)

-- the functions below a number were put
pub record OpensBelow (p : Program) (old new : Work) (n : ℕ) : Type 0 where
  pub grows : Grows old new
  pub right : IsRight p 0 0 old → IsRight p 0 0 new
  pub has : IsRight p 0 0 old → (k : ℕ) → k < n → HasOwn p new k

pub none_opened : (p : Program) (b : Work) → OpensBelow p b b 0
none_opened p b = record { grows = same_grows b; right = λ right. right; has = λ right k less. absurd (omega (arith, less)) }

own_more : (p : Program) (a b : Work) (n : ℕ) → Grows a b → HasOwn p a n → HasOwn p b n
own_more p a b n more has m home = let both = has m home in (allows_more a.bound b.bound m (Function n) more.bound both.0, λ x gives. allows_more a.bound b.bound m x more.bound (both.1 x gives))

pub next_opened : (p : Program) (a b c : Work) (n : ℕ) → OpensBelow p a b n → Opens p b c n → OpensBelow p a c (n + 1)
next_opened p a b c n first next = record {
  grows = grows_on a b c first.grows next.grows;
  right = λ right. next.right (first.right right);
  has = λ right k less. elim (below_next k n less) [
    | inl lower ↦ own_more p b c k next.grows (first.has right k lower)
    | inr here ↦ subst (HasOwn p c) (sym here) (next.has (first.right right))
  ];
}

pub all_opened : (p : Program) (a b : Work) (n : ℕ) → length p.functions ≤ n → OpensBelow p a b n → OpensAll p a b
all_opened p a b n most opens = record {
  grows = opens.grows;
  right = opens.right;
  has = λ right k. elim (cases_lt k n) [
    | inl lower ↦ opens.has right k lower
    | inr past ↦ (λ m home. absurd (not_own (home_of p k) m (inr (ap home_of_entry (slice_get_past p.functions k (omega (arith, most, past))))) home))
  ];
}

-- functions that modules declare

pub one_declared : (p : Program) (a b : Work) (m : ℕ) (f : TextFunction) (n : ℕ) → declared_in p f ≡ Some n → b ≡ given a m None (Function n) → Declares p a b m f
one_declared p a b m f n is put = record {
  grows = subst (Grows a) (sym put) (put_grows a m (Function n));
  right = λ can right. subst (IsRight p 0 0) (sym put) (put_right p 0 0 a m (Function n) right (can n is));
  has = λ g also. let same : n ≡ g = by g (sym is ∙ also) in subst (λ k. allows b.bound m (Function k) ≡ true) same (subst (λ (d : Work). allows d.bound m (Function n) ≡ true) (sym put) (thing_there a.bound m (Function n)));
} where
  by : (g : ℕ) → Some n ≡ Some g → n ≡ g
  by g e = cc

pub none_declared : (p : Program) (b : Work) (m : ℕ) (f : TextFunction) → declared_in p f ≡ None → Declares p b b m f
none_declared p b m f is = record {
  grows = same_grows b;
  right = λ can right. right;
  has = λ g also. let never : None ≡ Some g = sym is ∙ also in absurd (cc);
}

pub no_more_declared : (p : Program) (b : Work) (m : ℕ) (fs : List TextFunction) (i : ℕ) → length fs ≤ i → DeclaresFrom p b b m (drop i fs)
no_more_declared p b m fs i most = subst (DeclaresFrom p b b m) (sym (drop_all i fs most)) (record {
  grows = same_grows b;
  right = λ can right. right;
  has = λ j f g at is. absurd (cc);
})

more_declared : (p : Program) (a b c : Work) (m : ℕ) (f : TextFunction) (fs : List TextFunction) → Declares p a b m f → DeclaresFrom p b c m fs → DeclaresFrom p a c m (f ∷ fs)
more_declared p a b c m f fs first next = record {
  grows = grows_on a b c first.grows next.grows;
  right = λ can right. next.right (λ j h g at is. can (suc j) h g at is) (first.right (λ g is. can 0 f g refl is) right);
  has = has;
} where
  has : (j : ℕ) (h : TextFunction) (g : ℕ) → slice_get (f ∷ fs) j ≡ Some h → declared_in p h ≡ Some g → allows c.bound m (Function g) ≡ true
  has zero h g at is = let same : h ≡ f = by at in allows_more b.bound c.bound m (Function g) next.grows.bound (first.has g (ap (declared_in p) (sym same) ∙ is)) where
    by : Some f ≡ Some h → h ≡ f
    by e = cc
  has (suc j) h g at is = next.has j h g at is

pub step_declared : (p : Program) (a b c : Work) (m : ℕ) (fs : List TextFunction) (i : ℕ) (f : TextFunction) → i < length fs → f ≡ get_or fs i f → Declares p a b m f → DeclaresFrom p b c m (drop (i + 1) fs)
    → DeclaresFrom p a c m (drop i fs)
step_declared p a b c m fs i f less is first next = subst (DeclaresFrom p a c m) (sym (rest_at fs i f less is)) (more_declared p a b c m f (drop (i + 1) fs) first next)

-- what a declared name names

kernel_named : (o : Option ℕ) (g : ℕ) → (kernel_import o ≡ ToImport g) → o ≡ Some g
kernel_named None g is = absurd (cc)
kernel_named (Some n) g is = cc

by_tests : (defined alias : Bool) (n o : Option ℕ) (g : ℕ) → cond defined (own n) (cond alias (ToNative 5) (kernel_import o)) ≡ ToImport g → cond defined None (cond alias None o) ≡ Some g
by_tests true alias n o g is = absurd (own_named n g is)
by_tests false true n o g is = absurd (cc)
by_tests false false n o g is = kernel_named o g is

back_by_tests : (defined alias : Bool) (n o : Option ℕ) (g : ℕ) → cond defined None (cond alias None o) ≡ Some g → cond defined (own n) (cond alias (ToNative 5) (kernel_import o)) ≡ ToImport g
back_by_tests true alias n o g is = absurd (cc)
back_by_tests false true n o g is = absurd (cc)
back_by_tests false false n o g is = ap kernel_import is

named_by : (p : Program) (m f : ℕ) (o : Option TextFunction) (g : ℕ) → target_of p (Some m) f o ≡ ToImport g → (h : TextFunction) × (o ≡ Some h) × (declared_in p h ≡ Some g)
named_by p m f None g is = absurd (cc)
named_by p m f (Some h) g is =
    (h, refl, by_tests (is_defined h) (bytes_eq h.name (codes "lxfi_princ_alias")) (number_of p (Some m) f) (kernel_function p h.name) g is)

names_by : (p : Program) (m f : ℕ) (o : Option TextFunction) (h : TextFunction) (g : ℕ) → o ≡ Some h → declared_in p h ≡ Some g → target_of p (Some m) f o ≡ ToImport g
names_by p m f o h g at is =
    ap (target_of p (Some m) f) at ∙ back_by_tests (is_defined h) (bytes_eq h.name (codes "lxfi_princ_alias")) (number_of p (Some m) f) (kernel_function p h.name) g is

-- modules below a number
pub record DeclaresBelow (p : Program) (old new : Work) (n : ℕ) : Type 0 where
  pub grows : Grows old new
  pub right : IsRight p 0 0 old → IsRight p 0 0 new
  pub has : (m f g : ℕ) → m < n → target p (Some m) f ≡ ToImport g → allows new.bound m (Function g) ≡ true

pub no_module : (p : Program) (b : Work) → DeclaresBelow p b b 0
no_module p b = record { grows = same_grows b; right = λ right. right; has = λ m f g less is. absurd (omega (arith, less)) }

pub next_module : (p : Program) (a b c : Work) (n : ℕ) → DeclaresBelow p a b n → DeclaresFrom p b c n (module_of p (Some n)).functions → DeclaresBelow p a c (n + 1)
next_module p a b c n first next = record {
  grows = grows_on a b c first.grows next.grows;
  right = λ right. next.right (λ j h g at is. declares n j g (names_by p n j (slice_get (module_of p (Some n)).functions j) h g at is)) (first.right right);
  has = λ m f g less is. elim (below_next m n less) [
    | inl lower ↦ allows_more b.bound c.bound m (Function g) next.grows.bound (first.has m f g lower is)
    | inr here ↦ (
        let found = named_by p n f (slice_get (module_of p (Some n)).functions f) g (ap (λ k. target p (Some k) f) (sym here) ∙ is) in
        subst (λ k. allows c.bound k (Function g) ≡ true) (sym here) (next.has f found.0 g found.1 found.2)
        )
  ];
}

no_text : (p : Program) (m f g : ℕ) → length p.modules ≤ m → target p (Some m) f ≡ ToImport g → ⊥
no_text p m f g most is =
    let empty : (module_of p (Some m)).functions ≡ [] = ap (λ o. (module_or_empty o).functions) (slice_get_past p.modules m most) in
    let found = named_by p m f (slice_get (module_of p (Some m)).functions f) g is in
    let never : None ≡ Some found.0 = ap (λ l. slice_get l f) (sym empty) ∙ found.1 in
    absurd (cc)

pub all_modules : (p : Program) (a b : Work) (n : ℕ) → length p.modules ≤ n → DeclaresBelow p a b n → DeclaresAll p a b
all_modules p a b n most declared = record {
  grows = declared.grows;
  right = declared.right;
  has = λ m f g is. elim (cases_lt m n) [
    | inl lower ↦ declared.has m f g lower is
    | inr past ↦ absurd (no_text p m f g (omega (arith, most, past)) is)
  ];
}

pub this_text : (p : Program) (a b : Work) (m : ℕ) (o : Option Module) (t : Module) → unwrap_or o empty_module ≡ module_of p (Some m) → o ≡ Some t → DeclaresFrom p a b m t.functions
    → DeclaresFrom p a b m (module_of p (Some m)).functions
this_text p a b m o t is at declared =
    let same : t ≡ module_of p (Some m) = sym (ap (λ u. unwrap_or u empty_module) at) ∙ is in
    subst (λ (n : Module). DeclaresFrom p a b m n.functions) same declared

pub no_such_text : (p : Program) (b : Work) (m : ℕ) (o : Option Module) → unwrap_or o empty_module ≡ module_of p (Some m) → o ≡ None → DeclaresFrom p b b m (module_of p (Some m)).functions
no_such_text p b m o is at =
    let same : empty_module ≡ module_of p (Some m) = sym (ap (λ u. unwrap_or u empty_module) at) ∙ is in
    subst (λ (n : Module). DeclaresFrom p b b m n.functions) same (record {
      grows = same_grows b;
      right = λ can right. right;
      has = λ j f g there is. absurd (cc);
    })
