-- What a module can hold goes to all who wait for it.
use Rattle.std.proofs.Common.{◌≡◌, ℕ, zero, suc, ◌+◌, ◌<◌, Bool, true, false, Option, Some, None, inl, inr, List, slice_get, refl, sym, ap, subst, ◌∙◌, arith}
use Rattle.std.specs.Prelude.{◌⊎◌}
use Rattle.lx_words.proofs.Tests.{below_next}
use Rattle.lx_model.specs.declared.program.Program.{Program}
use Rattle.lx_surface.specs.declared.Thing.{Thing}
use Rattle.lx_surface.specs.declared.Thing.TheVariants.{RefType, Function}
use Rattle.lx_surface.specs.declared.waits.Waits.{Waits}
use Rattle.lx_surface.specs.declared.limits.Bound.{Bound}
use Rattle.lx_surface.specs.declared.work.Work.{Work}
use Rattle.lx_surface.specs.Bound.{allows, with_thing}
use Rattle.lx_surface.specs.Given.{Passed, PassedTo}
use Rattle.lx_surface.specs.Right.{IsRight}
use Rattle.lx_surface.specs.Waits.{has_number, waits}
use Rattle.lx_surface.specs.Work.{Grows, given}
use Rattle.lx_surface.proofs.Places.{number_place, past}
use Rattle.lx_surface.proofs.Rights.{grows_on, put_grows, put_right, same_grows}
use Rattle.lx_surface.proofs.Sets.{allows_more, thing_there}

-- one module

no_function_more : (b : Bound) (m : ℕ) (x : Thing) (t : ℕ) → x ≡ RefType t → (with_thing b m x).functions ≡ b.functions
no_function_more b m (RefType u) t is = refl
no_function_more b m (Function g) t is = absurd (cc)

pub one_passed : (p : Program) (a b : Work) (k : ℕ) (x : Thing) (m : ℕ) → waits a.waits m k x ≡ true → b ≡ given a m None x → PassedTo p a b k x m
one_passed p a b k x m waiting is = subst (λ w. PassedTo p a w k x m) (sym is) (record {
  grows = put_grows a m x;
  right = λ i j right held. put_right p i j a m x right (right.waits_soundly m k x waiting (right.sound k x held));
  has = λ _. thing_there a.bound m x;
  waiting = refl;
  functions = λ t same. no_function_more a.bound m x t same;
})

pub not_waited : (p : Program) (w : Work) (k : ℕ) (x : Thing) (m : ℕ) → waits w.waits m k x ≡ false → PassedTo p w w k x m
not_waited p w k x m no_wait = record {
  grows = same_grows w;
  right = λ i j right held. right;
  has = λ waiting. let never : false ≡ true = sym no_wait ∙ waiting in absurd (cc);
  waiting = refl;
  functions = λ t same. refl;
}

-- all who wait, up to a place
pub record PassedBelow (p : Program) (old new : Work) (k : ℕ) (x : Thing) (place : ℕ) : Type 0 where
  pub grows : Grows old new
  pub right : (i j : ℕ) → IsRight p i j old → allows old.bound k x ≡ true → IsRight p i j new
  pub has : (n m : ℕ) → n < place → slice_get old.waits.receivers n ≡ Some m → waits old.waits m k x ≡ true → allows new.bound m x ≡ true
  pub waiting : new.waits ≡ old.waits
  pub functions : (t : ℕ) → x ≡ RefType t → new.bound.functions ≡ old.bound.functions

pub none_passed : (p : Program) (w : Work) (k : ℕ) (x : Thing) → PassedBelow p w w k x 0
none_passed p w k x = record {
  grows = same_grows w;
  right = λ i j right held. right;
  has = λ n m less at waiting. absurd (omega (arith, less));
  waiting = refl;
  functions = λ t same. refl;
}

pub next_passed : (p : Program) (a b c : Work) (k : ℕ) (x : Thing) (place m : ℕ) → PassedBelow p a b k x place → slice_get b.waits.receivers place ≡ Some m → PassedTo p b c k x m → PassedBelow p a c k x (place + 1)
next_passed p a b c k x place m first at next = record {
  grows = grows_on a b c first.grows next.grows;
  right = λ i j right held. next.right i j (first.right i j right held) (allows_more a.bound b.bound k x first.grows.bound held);
  has = λ n l less there waiting. elim (below_next n place less) [
    | inl lower ↦ allows_more b.bound c.bound l x next.grows.bound (first.has n l lower there waiting)
    | inr here ↦ (
        let same : m ≡ l = by m l (sym at ∙ (ap (λ (w : Waits). slice_get w.receivers place) first.waiting ∙ (ap (slice_get a.waits.receivers) (sym here) ∙ there))) in
        subst (λ i. allows c.bound i x ≡ true) same (next.has (subst (λ i. waits b.waits i k x ≡ true) (sym same) (ap (λ w. waits w l k x) first.waiting ∙ waiting)))
        )
  ];
  waiting = next.waiting ∙ first.waiting;
  functions = λ t same. next.functions t same ∙ first.functions t same;
} where
  by : (m l : ℕ) → Some m ≡ Some l → m ≡ l
  by m l e = cc

pub all_passed : (p : Program) (a b : Work) (k : ℕ) (x : Thing) (place : ℕ) → PassedBelow p a b k x place → slice_get b.waits.receivers place ≡ None → Passed p a b k x
all_passed p a b k x place passed none = record {
  grows = passed.grows;
  right = passed.right;
  has = λ m waiting known.
      let there = number_place b.waits.receivers m known in
      passed.has there.0 m (past b.waits.receivers place there.0 m none there.1) (ap (λ (w : Waits). slice_get w.receivers there.0) (sym passed.waiting) ∙ there.1) (ap (λ w. waits w m k x) (sym passed.waiting) ∙ waiting);
  functions = passed.functions;
}
