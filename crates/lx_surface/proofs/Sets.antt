-- Bounds that get more.
use Rattle.std.proofs.Common.{◌≡◌, ℕ, ◌+◌, Bool, true, false, Option, Some, None, inl, inr, List, [], ◌∷◌, ◌++◌, length, refl, sym, ap, subst, ◌∙◌, arith}
use Rattle.std.specs.Prelude.{◌⊎◌, ◌&&◌, ◌||◌, nat_eq, if◌then◌else◌, ⊤}
use Rattle.std.specs.List.{list_any}
use Rattle.std.proofs.lemmas.Bool.{and_parts, cases_Bool, eq-eqb, eqb-true, or_cases, or_left, or_right}
use Rattle.std.proofs.lemmas.List.Folds.{list_any-append}
use Rattle.lx_words.proofs.Lists.{nothing_behind}
use Rattle.lx_model.specs.declared.program.Program.{Program}
use Rattle.lx_surface.specs.declared.Thing.{Thing}
use Rattle.lx_surface.specs.declared.Thing.TheVariants.{RefType, Function}
use Rattle.lx_surface.specs.Reach.{Can}
use Rattle.lx_surface.specs.declared.limits.Bound.{Bound}
use Rattle.lx_surface.specs.Pairs.{Pair, has_pair, is_pair, with_pair}
use Rattle.lx_surface.specs.Bound.{allows, with_thing}
use Rattle.lx_surface.specs.Naming.{is_thing}
use Rattle.lx_surface.specs.Right.{IsSound}
use Rattle.lx_surface.specs.Work.{Extends, IsLonger}
use Rattle.lx_surface.proofs.Places.{itself as is_itself}

-- longer lists

joined : {X : Type 0} (xs ys zs : List X) → (xs ++ ys) ++ zs ≡ xs ++ (ys ++ zs)
joined [] ys zs = refl
joined (x ∷ xs) ys zs = ap (λ l. x ∷ l) (joined xs ys zs)

same_longer : (xs : List Pair) → IsLonger xs xs
same_longer xs = ([], nothing_behind xs)

longer_on : (xs ys zs : List Pair) → IsLonger xs ys → IsLonger ys zs → IsLonger xs zs
longer_on xs ys zs first next = (first.0 ++ next.0, next.1 ∙ (ap (λ l. l ++ next.0) first.1 ∙ joined xs first.0 next.0))

pub has_more : (xs ys : List Pair) (m n : ℕ) → IsLonger xs ys → has_pair xs m n ≡ true → has_pair ys m n ≡ true
has_more xs ys m n longer is =
    ap (λ l. has_pair l m n) longer.1 ∙ (list_any-append (is_pair m n) xs longer.0 ∙ or_left (has_pair xs m n) (has_pair longer.0 m n) is)

-- bounds

pub same_extends : (b : Bound) → Extends b b
same_extends b = record { references = same_longer b.references; functions = same_longer b.functions }

pub extends_on : (a b c : Bound) → Extends a b → Extends b c → Extends a c
extends_on a b c first next = record {
  references = longer_on a.references b.references c.references first.references next.references;
  functions = longer_on a.functions b.functions c.functions first.functions next.functions;
}

pub allows_more : (a b : Bound) (m : ℕ) (x : Thing) → Extends a b → allows a m x ≡ true → allows b m x ≡ true
allows_more a b m (RefType t) more is = has_more a.references b.references m t more.references is
allows_more a b m (Function g) more is = has_more a.functions b.functions m g more.functions is

-- a pair more

pair_longer : (xs : List Pair) (m n : ℕ) (b : Bool) → IsLonger xs (if b then xs else xs ++ (m, n) ∷ [])
pair_longer xs m n true = same_longer xs
pair_longer xs m n false = ((m, n) ∷ [], refl)

pair_has : (xs : List Pair) (m n : ℕ) (b : Bool) → has_pair xs m n ≡ b → has_pair (if b then xs else xs ++ (m, n) ∷ []) m n ≡ true
pair_has xs m n true is = is
pair_has xs m n false is =
    list_any-append (is_pair m n) xs ((m, n) ∷ []) ∙ or_right (has_pair xs m n) (is_pair m n (m, n) || false) (or_left (is_pair m n (m, n)) false (is_itself m n))

just : (k i m n : ℕ) → (is_pair k i (m, n) || false) ≡ true → (m ≡ k) × (n ≡ i)
just k i m n is = elim (or_cases (is_pair k i (m, n)) false is) [
  | inl here ↦ (let both = and_parts (nat_eq k m) (nat_eq i n) here in (sym (eqb-true k m both.0), sym (eqb-true i n both.1)))
  | inr never ↦ absurd (cc)
]

pair_from : (xs : List Pair) (m n k i : ℕ) (b : Bool) → has_pair (if b then xs else xs ++ (m, n) ∷ []) k i ≡ true → (has_pair xs k i ≡ true) ⊎ ((m ≡ k) × (n ≡ i))
pair_from xs m n k i true is = inl is
pair_from xs m n k i false is = elim (or_cases (has_pair xs k i) (is_pair k i (m, n) || false) (sym (list_any-append (is_pair k i) xs ((m, n) ∷ [])) ∙ is)) [
  | inl before ↦ inl before
  | inr here ↦ inr (just k i m n here)
]

-- a thing more

pub thing_extends : (b : Bound) (m : ℕ) (x : Thing) → Extends b (with_thing b m x)
thing_extends b m (RefType t) = record { references = pair_longer b.references m t (has_pair b.references m t); functions = same_longer b.functions }
thing_extends b m (Function g) = record { references = same_longer b.references; functions = pair_longer b.functions m g (has_pair b.functions m g) }

pub thing_there : (b : Bound) (m : ℕ) (x : Thing) → allows (with_thing b m x) m x ≡ true
thing_there b m (RefType t) = pair_has b.references m t (has_pair b.references m t) refl
thing_there b m (Function g) = pair_has b.functions m g (has_pair b.functions m g) refl

pub thing_from : (b : Bound) (m : ℕ) (x : Thing) (k : ℕ) (y : Thing) → allows (with_thing b m x) k y ≡ true → (allows b k y ≡ true) ⊎ ((m ≡ k) × (x ≡ y))
thing_from b m (RefType t) k (RefType u) is = elim (pair_from b.references m t k u (has_pair b.references m t) is) [
  | inl before ↦ inl before
  | inr here ↦ inr (here.0, ap RefType here.1)
]
thing_from b m (RefType t) k (Function g) is = inl is
thing_from b m (Function g) k (RefType t) is = inl is
thing_from b m (Function g) k (Function h) is = elim (pair_from b.functions m g k h (has_pair b.functions m g) is) [
  | inl before ↦ inl before
  | inr here ↦ inr (here.0, ap Function here.1)
]

pub thing_sound : (p : Program) (b : Bound) (m : ℕ) (x : Thing) → IsSound p b → Can p m x → IsSound p (with_thing b m x)
thing_sound p b m x sound can k y is = elim (thing_from b m x k y is) [
  | inl before ↦ sound k y before
  | inr here ↦ subst (λ z. Can p k z) here.1 (subst (λ i. Can p i x) here.0 can)
]

pub same_thing : (x y : Thing) → is_thing x y ≡ true → x ≡ y
same_thing (RefType t) (RefType u) is = ap RefType (eqb-true t u is)
same_thing (RefType t) (Function g) is = absurd (cc)
same_thing (Function g) (RefType t) is = absurd (cc)
same_thing (Function g) (Function h) is = ap Function (eqb-true g h is)

pub itself : (x : Thing) → is_thing x x ≡ true
itself (RefType t) = eq-eqb t t refl
itself (Function g) = eq-eqb g g refl
