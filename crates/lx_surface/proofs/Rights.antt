-- What is so at each turn stays so where something is put.
use Rattle.std.proofs.Common.{◌≡◌, ℕ, zero, suc, ◌<◌, ◌≤◌, Bool, true, false, Option, Some, None, inl, inr, List, [], ◌∷◌, ◌++◌, length, slice_get, refl, sym, ap, subst, ◌∙◌, arith}
use Rattle.std.specs.Prelude.{◌⊎◌, if◌then◌else◌, ⊤}
use Rattle.lx_words.proofs.Tests.{le_trans}
use Rattle.lx_model.specs.declared.program.Program.{Program}
use Rattle.lx_surface.specs.declared.Thing.{Thing}
use Rattle.lx_surface.specs.declared.Thing.TheVariants.{RefType, Function}
use Rattle.lx_surface.specs.Reach.{Can}
use Rattle.lx_surface.specs.declared.limits.Bound.{Bound}
use Rattle.lx_surface.specs.declared.work.Work.{Work}
use Rattle.lx_surface.specs.Bound.{allows, with_thing}
use Rattle.lx_surface.specs.Marks.{has_mark, with_mark}
use Rattle.lx_surface.specs.Naming.{whole_names}
use Rattle.lx_surface.specs.Pairs.{Pair}
use Rattle.lx_surface.specs.Right.{CanFrom, IsDone, IsRight, IsSound, May}
use Rattle.lx_surface.specs.Waits.{has_number, waits, with_wait}
use Rattle.lx_surface.specs.Work.{Extends, Grows, IsEmpty, IsLonger, given, given_from, is_given}
use Rattle.lx_surface.proofs.Places.{earlier, longer_length, stands}
use Rattle.lx_surface.proofs.Sets.{allows_more, extends_on, same_extends, thing_extends, thing_sound, thing_there}
use Rattle.lx_surface.proofs.Tables.{mark_from, receiver_more, receiver_there, wait_from, wait_more, wait_there}

-- growing

pub same_grows : (w : Work) → Grows w w
same_grows w = record { bound = same_extends w.bound; waiting = λ m k x is. is }

pub grows_on : (a b c : Work) → Grows a b → Grows b c → Grows a c
grows_on a b c first next = record {
  bound = extends_on a.bound b.bound c.bound first.bound next.bound;
  waiting = λ m k x is. next.waiting m k x (first.waiting m k x is);
}

pub given_more : (a b : Work) (m : ℕ) (from : Option ℕ) (x : Thing) → Grows a b → is_given a m from x ≡ true → is_given b m from x ≡ true
given_more a b m None x grows is = allows_more a.bound b.bound m x grows.bound is
given_more a b m (Some k) x grows is = grows.waiting m k x is

-- turns that were had

pub done_held : (i j : ℕ) (b : Bound) (k : ℕ) (x : Thing) → IsDone i j b k x → allows b k x ≡ true
done_held i j b k (RefType t) done = stands b.references done.0 k t done.2
done_held i j b k (Function g) done = stands b.functions done.0 k g done.2

done_before : (i j : ℕ) (a b : Bound) (k : ℕ) (x : Thing) → Extends a b → i ≤ length a.functions → j ≤ length a.references → IsDone i j b k x → IsDone i j a k x
done_before i j a b k (RefType t) more functions references done =
    (done.0, done.1, sym (earlier a.references b.references done.0 more.references (within done.0 j (length a.references) done.1 references)) ∙ done.2) where
      within : (n j l : ℕ) → n < j → j ≤ l → n < l
      within n j l h e = omega (arith, h, e)
done_before i j a b k (Function g) more functions references done =
    (done.0, done.1, sym (earlier a.functions b.functions done.0 more.functions (within done.0 i (length a.functions) done.1 functions)) ∙ done.2) where
      within : (n j l : ℕ) → n < j → j ≤ l → n < l
      within n j l h e = omega (arith, h, e)

-- a bound that is longer

with_bound : Work → Bound → Work
with_bound w b = record w { bound = b }

abbrev bound_grows : (w : Work) (b : Bound) → Extends w.bound b → Grows w (record w { bound = b })
bound_grows w b more = record { bound = more; waiting = λ m k x is. is }

bound_right : (p : Program) (i j : ℕ) (w : Work) (b : Bound) → IsRight p i j w → Extends w.bound b → IsSound p b → IsRight p i j (record w { bound = b })
bound_right p i j w b right more sound = record {
  functions_within = le_trans i (length w.bound.functions) (length b.functions) right.functions_within (longer_length w.bound.functions b.functions more.functions);
  references_within = le_trans j (length w.bound.references) (length b.references) right.references_within (longer_length w.bound.references b.references more.references);
  sound = sound;
  waits_soundly = right.waits_soundly;
  known = right.known;
  whole = λ m from l x marked names. given_more w (record w { bound = b }) m from x (bound_grows w b more) (right.whole m from l x marked names);
  passed_on = λ k x m done waiting. allows_more w.bound b m x more (right.passed_on k x m (done_before i j w.bound b k x more right.functions_within right.references_within done) waiting);
}

pub put_right : (p : Program) (i j : ℕ) (w : Work) (m : ℕ) (x : Thing) → IsRight p i j w → Can p m x → IsRight p i j (given w m None x)
put_right p i j w m x right can = bound_right p i j w (with_thing w.bound m x) right (thing_extends w.bound m x) (thing_sound p w.bound m x right.sound can)

pub put_grows : (w : Work) (m : ℕ) (x : Thing) → Grows w (given w m None x)
put_grows w m x = bound_grows w (with_thing w.bound m x) (thing_extends w.bound m x)

-- one more that waits

abbrev wait_grows : (w : Work) (m k : ℕ) (x : Thing) → Grows w (record w { waits = with_wait w.waits m k x })
wait_grows w m k x = record { bound = same_extends w.bound; waiting = λ a b y is. wait_more w.waits m k x a b y is }

wait_right : (p : Program) (i j : ℕ) (w : Work) (m k : ℕ) (x : Thing) → IsRight p i j w → (Can p k x → Can p m x) → (allows w.bound k x ≡ true → allows w.bound m x ≡ true)
    → IsRight p i j (record w { waits = with_wait w.waits m k x })
wait_right p i j w m k x right may has = record {
  functions_within = right.functions_within;
  references_within = right.references_within;
  sound = right.sound;
  waits_soundly = λ a b y waiting. elim (wait_from w.waits m k x a b y waiting) [
    | inl before ↦ right.waits_soundly a b y before
    | inr here ↦ moved (λ a b y. Can p b y → Can p a y) a b y here may
  ];
  known = λ a b y waiting. elim (wait_from w.waits m k x a b y waiting) [
    | inl before ↦ receiver_more w.waits m k x a (right.known a b y before)
    | inr here ↦ subst (λ n. has_number (with_wait w.waits m k x).receivers n ≡ true) here.0 (receiver_there w.waits m k x)
  ];
  whole = λ a from l y marked names. given_more w (record w { waits = with_wait w.waits m k x }) a from y (wait_grows w m k x) (right.whole a from l y marked names);
  passed_on = λ b y a done waiting. elim (wait_from w.waits m k x a b y waiting) [
    | inl before ↦ right.passed_on b y a done before
    | inr here ↦ moved (λ a b y. allows w.bound b y ≡ true → allows w.bound a y ≡ true) a b y here has (done_held i j w.bound b y done)
  ];
} where
  moved : (P : ℕ → ℕ → Thing → Type 0) (a b : ℕ) (y : Thing) → (m ≡ a) × (k ≡ b) × (x ≡ y) → P m k x → P a b y
  moved P a b y same h = subst (λ n. P n b y) same.0 (subst (λ n. P m n y) same.1 (subst (λ z. P m k z) same.2 h))

-- what is given from a module

abbrev held : Work → ℕ → ℕ → Thing → Bool → Bound
held w m k x b = if b then with_thing w.bound m x else w.bound

held_extends : (w : Work) (m k : ℕ) (x : Thing) (b : Bool) → Extends w.bound (held w m k x b)
held_extends w m k x true = thing_extends w.bound m x
held_extends w m k x false = same_extends w.bound

held_sound : (p : Program) (w : Work) (m k : ℕ) (x : Thing) (b : Bool) → allows w.bound k x ≡ b → IsSound p w.bound → (Can p k x → Can p m x) → IsSound p (held w m k x b)
held_sound p w m k x true is sound may = thing_sound p w.bound m x sound (may (sound k x is))
held_sound p w m k x false is sound may = sound

held_has : (w : Work) (m k : ℕ) (x : Thing) (b : Bool) → allows w.bound k x ≡ b → allows (held w m k x b) k x ≡ true → allows (held w m k x b) m x ≡ true
held_has w m k x true is has = thing_there w.bound m x
held_has w m k x false is has = let never : false ≡ true = sym is ∙ has in absurd (cc)

pub from_right : (p : Program) (i j : ℕ) (w : Work) (m k : ℕ) (x : Thing) → IsRight p i j w → (Can p k x → Can p m x) → IsRight p i j (given_from w m k x)
from_right p i j w m k x right may =
    let b = allows w.bound k x in
    let c = held w m k x b in
    wait_right p i j (record w { bound = c }) m k x (bound_right p i j w c right (held_extends w m k x b) (held_sound p w m k x b refl right.sound may)) may (held_has w m k x b refl)

pub from_grows : (w : Work) (m k : ℕ) (x : Thing) → Grows w (given_from w m k x)
from_grows w m k x = record { bound = held_extends w m k x (allows w.bound k x); waiting = λ a b y is. wait_more w.waits m k x a b y is }

-- a mark more

pub mark_right : (p : Program) (i j : ℕ) (w : Work) (m : ℕ) (from l : Option ℕ) → IsRight p i j w → ((x : Thing) → whole_names p l x ≡ true → is_given w m from x ≡ true)
    → IsRight p i j (record w { marks = with_mark w.marks m from l })
mark_right p i j w m from l right has = record {
  functions_within = right.functions_within;
  references_within = right.references_within;
  sound = right.sound;
  waits_soundly = right.waits_soundly;
  known = right.known;
  whole = λ a source list y marked names. elim (mark_from w.marks m from l a source list marked) [
    | inl before ↦ again w a source y (right.whole a source list y before names)
    | inr here ↦ again w a source y (moved a source list y here names)
  ];
  passed_on = right.passed_on;
} where
  again : (w : Work) (a : ℕ) (source : Option ℕ) (y : Thing) → is_given w a source y ≡ true → is_given (record w { marks = with_mark w.marks m from l }) a source y ≡ true
  again w a None y is = is
  again w a (Some k) y is = is

  moved : (a : ℕ) (source list : Option ℕ) (y : Thing) → (m ≡ a) × (from ≡ source) × (l ≡ list) → whole_names p list y ≡ true → is_given w a source y ≡ true
  moved a source list y same names =
      subst (λ n. is_given w n source y ≡ true) same.0 (subst (λ s. is_given w m s y ≡ true) same.1 (has y (subst (λ o. whole_names p o y ≡ true) (sym same.2) names)))

pub mark_grows : (w : Work) (m : ℕ) (from l : Option ℕ) → Grows w (record w { marks = with_mark w.marks m from l })
mark_grows w m from l = record { bound = same_extends w.bound; waiting = λ a b y is. is }
