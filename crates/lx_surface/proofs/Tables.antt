-- Tables that get more: who waits for whom, and what was given whole.
use Rattle.std.proofs.Common.{◌≡◌, ℕ, Bool, true, false, Option, Some, None, inl, inr, List, [], ◌∷◌, ◌++◌, refl, sym, ap, subst, ◌∙◌}
use Rattle.std.specs.Prelude.{◌⊎◌, ◌&&◌, ◌||◌, nat_eq, if◌then◌else◌}
use Rattle.std.specs.List.{list_any}
use Rattle.std.specs.Option.{option_eq}
use Rattle.std.proofs.lemmas.Bool.{and_from, and_parts, eq-eqb, eqb-true, or_cases, or_left, or_right}
use Rattle.std.proofs.lemmas.List.Folds.{list_any-append}
use Rattle.lx_surface.specs.declared.Thing.{Thing}
use Rattle.lx_surface.specs.declared.Thing.TheVariants.{RefType, Function}
use Rattle.lx_surface.specs.declared.waits.Waits.{Waits}
use Rattle.lx_surface.specs.Marks.{Mark, has_mark, is_mark, with_mark}
use Rattle.lx_surface.specs.Waits.{Triple, has_number, has_triple, is_triple, waits, with_number, with_triple, with_wait}

-- a list that gets a key where the key is new, by a test that tells which key stands there
module _ {X : Type 0} (test : X → Bool) (key : X) where
  abbrev with_key : Bool → List X → List X
  with_key b xs = if b then xs else xs ++ key ∷ []

  key_there : (xs : List X) (b : Bool) → test key ≡ true → list_any test xs ≡ b → list_any test (with_key b xs) ≡ true
  key_there xs true is had = had
  key_there xs false is had = list_any-append test xs (key ∷ []) ∙ or_right (list_any test xs) (test key || false) (or_left (test key) false is)

key_more : {X : Type 0} (test : X → Bool) (key : X) (xs : List X) (b : Bool) → list_any test xs ≡ true → list_any test (with_key test key b xs) ≡ true
key_more test key xs true had = had
key_more test key xs false had = list_any-append test xs (key ∷ []) ∙ or_left (list_any test xs) (test key || false) had

key_from : {X : Type 0} (test : X → Bool) (key : X) (xs : List X) (b : Bool) → list_any test (with_key test key b xs) ≡ true → (list_any test xs ≡ true) ⊎ (test key ≡ true)
key_from test key xs true has = inl has
key_from test key xs false has = elim (or_cases (list_any test xs) (test key || false) (sym (list_any-append test xs (key ∷ [])) ∙ has)) [
  | inl before ↦ inl before
  | inr here ↦ elim (or_cases (test key) false here) [
    | inl now ↦ inr now
    | inr never ↦ absurd (cc)
  ]
]

-- triples

triple_itself : (m k n : ℕ) → is_triple m k n (m, k, n) ≡ true
triple_itself m k n = and_from (nat_eq m m && nat_eq k k) (nat_eq n n) (and_from (nat_eq m m) (nat_eq k k) (eq-eqb m m refl) (eq-eqb k k refl)) (eq-eqb n n refl)

is_that : (a b c m k n : ℕ) → is_triple a b c (m, k, n) ≡ true → (m ≡ a) × (k ≡ b) × (n ≡ c)
is_that a b c m k n is =
    let both = and_parts (nat_eq a m && nat_eq b k) (nat_eq c n) is in
    let first = and_parts (nat_eq a m) (nat_eq b k) both.0 in
    (sym (eqb-true a m first.0), sym (eqb-true b k first.1), sym (eqb-true c n both.1))

triple_there : (xs : List Triple) (m k n : ℕ) → has_triple (with_triple xs m k n) m k n ≡ true
triple_there xs m k n = key_there (is_triple m k n) (m, k, n) xs (has_triple xs m k n) (triple_itself m k n) refl

triple_more : (xs : List Triple) (m k n a b c : ℕ) → has_triple xs a b c ≡ true → has_triple (with_triple xs m k n) a b c ≡ true
triple_more xs m k n a b c had = key_more (is_triple a b c) (m, k, n) xs (has_triple xs m k n) had

triple_from : (xs : List Triple) (m k n a b c : ℕ) → has_triple (with_triple xs m k n) a b c ≡ true → (has_triple xs a b c ≡ true) ⊎ ((m ≡ a) × (k ≡ b) × (n ≡ c))
triple_from xs m k n a b c has = elim (key_from (is_triple a b c) (m, k, n) xs (has_triple xs m k n) has) [
  | inl before ↦ inl before
  | inr here ↦ inr (is_that a b c m k n here)
]

-- receivers

number_there : (xs : List ℕ) (m : ℕ) → has_number (with_number xs m) m ≡ true
number_there xs m = key_there (nat_eq m) m xs (has_number xs m) (eq-eqb m m refl) refl

number_more : (xs : List ℕ) (m n : ℕ) → has_number xs n ≡ true → has_number (with_number xs m) n ≡ true
number_more xs m n had = key_more (nat_eq n) m xs (has_number xs m) had

-- who waits

pub wait_there : (w : Waits) (m k : ℕ) (x : Thing) → waits (with_wait w m k x) m k x ≡ true
wait_there w m k (RefType t) = triple_there w.references m k t
wait_there w m k (Function g) = triple_there w.functions m k g

pub wait_more : (w : Waits) (m k : ℕ) (x : Thing) (a b : ℕ) (y : Thing) → waits w a b y ≡ true → waits (with_wait w m k x) a b y ≡ true
wait_more w m k (RefType t) a b (RefType u) had = triple_more w.references m k t a b u had
wait_more w m k (RefType t) a b (Function h) had = had
wait_more w m k (Function g) a b (RefType u) had = had
wait_more w m k (Function g) a b (Function h) had = triple_more w.functions m k g a b h had

pub wait_from : (w : Waits) (m k : ℕ) (x : Thing) (a b : ℕ) (y : Thing) → waits (with_wait w m k x) a b y ≡ true → (waits w a b y ≡ true) ⊎ ((m ≡ a) × (k ≡ b) × (x ≡ y))
wait_from w m k (RefType t) a b (RefType u) has = elim (triple_from w.references m k t a b u has) [
  | inl before ↦ inl before
  | inr here ↦ inr (here.0, here.1, ap RefType here.2)
]
wait_from w m k (RefType t) a b (Function h) has = inl has
wait_from w m k (Function g) a b (RefType u) has = inl has
wait_from w m k (Function g) a b (Function h) has = elim (triple_from w.functions m k g a b h has) [
  | inl before ↦ inl before
  | inr here ↦ inr (here.0, here.1, ap Function here.2)
]

pub receiver_there : (w : Waits) (m k : ℕ) (x : Thing) → has_number (with_wait w m k x).receivers m ≡ true
receiver_there w m k (RefType t) = number_there w.receivers m
receiver_there w m k (Function g) = number_there w.receivers m

pub receiver_more : (w : Waits) (m k : ℕ) (x : Thing) (a : ℕ) → has_number w.receivers a ≡ true → has_number (with_wait w m k x).receivers a ≡ true
receiver_more w m k (RefType t) a had = number_more w.receivers m a had
receiver_more w m k (Function g) a had = number_more w.receivers m a had

-- marks

option_that : (o u : Option ℕ) → option_eq nat_eq o u ≡ true → u ≡ o
option_that None None is = refl
option_that None (Some n) is = absurd (cc)
option_that (Some m) None is = absurd (cc)
option_that (Some m) (Some n) is = ap Some (sym (eqb-true m n is))

pub mark_from : (xs : List Mark) (m : ℕ) (from l : Option ℕ) (k : ℕ) (source list : Option ℕ) → has_mark (with_mark xs m from l) k source list ≡ true
    → (has_mark xs k source list ≡ true) ⊎ ((m ≡ k) × (from ≡ source) × (l ≡ list))
mark_from xs m from l k source list has = elim (key_from (is_mark k source list) (m, from, l) xs (has_mark xs m from l) has) [
  | inl before ↦ inl before
  | inr here ↦ (
      let both = and_parts (nat_eq k m && option_eq nat_eq source from) (option_eq nat_eq list l) here in
      let first = and_parts (nat_eq k m) (option_eq nat_eq source from) both.0 in
      inr (sym (eqb-true k m first.0), option_that source from first.1, option_that list l both.1)
      )
]
