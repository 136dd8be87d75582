-- Readers whose answers are related.
use Rattle.std.proofs.Common.{◌≡◌, Bool, true, false, List, ◌++◌, Ok, Err, refl, sym, ap, ◌∙◌, subst}
use Rattle.std.specs.Prelude.{if◌then◌else◌}
use Rattle.lx_annot.specs.declared.interface.Interface.{Interface}
use Rattle.lx_annot_expressions.specs.Tokens.{Tok}
use Rattle.lx_annot_expressions.specs.declared.fault.Fault.{Fault}
use Rattle.lx_annot_expressions.specs.Reading.{Read, ◌>>=◌, at}
use Rattle.lx_annot_read.proofs.Aside.{Same as SameAside, SameRead as SameStatement}
use Rattle.lx_annot_laws.proofs.Local.{Local, Plain}

-- Two answers that are related, with the same tokens left, or the same fault.
abbrev pub AlikeBy : {A : Type 0} → (A → A → Type 0) → Read A → Read A → Type 0
AlikeBy R (Ok x) (Ok y) = R x.0 y.0 × (x.1 ≡ y.1)
AlikeBy R (Ok x) (Err f) = ⊥
AlikeBy R (Err e) (Ok y) = ⊥
AlikeBy R (Err e) (Err f) = e ≡ f

pub same_first : {A B : Type 0} (R : B → B → Type 0) (r : Read A) (g h : A × List Tok → Read B) → ((x : A × List Tok) → AlikeBy R (g x) (h x)) → AlikeBy R (r >>= g) (r >>= h)
same_first R (Ok x) g h k = k x
same_first R (Err e) g h k = refl

pub alike_first : {A B : Type 0} (Q : A → A → Type 0) (R : B → B → Type 0) (r s : Read A) (g h : A × List Tok → Read B) → AlikeBy Q r s → ((x y : A) (us : List Tok) → Q x y → AlikeBy R (g (x, us)) (h (y, us))) → AlikeBy R (r >>= g) (s >>= h)
alike_first Q R (Ok x) (Ok y) g h (q, e) k = subst (λ us. AlikeBy R (g (x.0, x.1)) (h (y.0, us))) e (k x.0 y.0 x.1 q)
alike_first Q R (Ok x) (Err f) g h a k = absurd a
alike_first Q R (Err e) (Ok y) g h a k = absurd a
alike_first Q R (Err e) (Err f) g h a k = a

pub if_alike : {A : Type 0} (R : A → A → Type 0) (b : Bool) (a c p q : Read A) → AlikeBy R a p → AlikeBy R c q → AlikeBy R (if b then a else c) (if b then p else q)
if_alike R true a c p q s t = s
if_alike R false a c p q s t = t

-- Alike answers keep that reading hangs on its tokens.

ok_alike : {A : Type 0} (R : A → A → Type 0) (r s : Read A) (x : A) (us : List Tok) → AlikeBy R r s → r ≡ Ok (x, us) → (y : A) × (s ≡ Ok (y, us)) × R x y
ok_alike {A} R (Ok p) (Ok q) x us (same, left) e =
    let k : p ≡ (x, us) = cc in
    (q.0, ap (λ u. Ok (q.0, u)) (sym left ∙ ap (λ (z : A × List Tok). z.1) k), subst (λ (z : A × List Tok). R z.0 q.0) k same)
ok_alike R (Ok p) (Err f) x us same e = absurd same
ok_alike R (Err d) s x us same e = cc

err_alike : {A : Type 0} (R : A → A → Type 0) (r s : Read A) (f : Fault) → AlikeBy R r s → r ≡ Err f → s ≡ Err f
err_alike R (Ok p) s f same e = cc
err_alike R (Err d) (Ok q) f same e = absurd same
err_alike R (Err d) (Err g) f same e = sym (ap (λ k. Err k) same) ∙ e

pub alike_local : {A : Type 0} (R : A → A → Type 0) (read other : List Tok → Read A) → Plain read → ((ts : List Tok) → AlikeBy R (read ts) (other ts)) → Local R read other
alike_local R read other plain alike = record {
  ends = plain.ends;
  reads = λ front us vs x e look.
      let r = plain.reads front us vs x e look in
      ok_alike R (read (front ++ vs)) (other (front ++ vs)) x vs (alike (front ++ vs)) (r.1 ∙ ap (λ y. Ok (y, vs)) (sym r.2));
  stops = plain.stops;
  faults = λ front us vs f bound a e left look. err_alike R (read (front ++ vs)) (other (front ++ vs)) (at f.kind vs) (alike (front ++ vs)) (plain.faults front us vs f bound a e left look);
}

-- Interfaces that are the same, lines aside.
pub interface_alike : (r s : Read Interface) → SameStatement r s → AlikeBy SameAside r s
interface_alike (Ok x) (Ok y) h = h
interface_alike (Ok x) (Err f) h = h
interface_alike (Err e) (Ok y) h = h
interface_alike (Err e) (Err f) h = h
