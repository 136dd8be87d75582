-- Sorted atoms, each once, are all atoms of the list in order.
use Rattle.std.proofs.Common.{◌≡◌, refl, sym, ap, ◌∙◌, subst, suc, ◌+◌, Bool, true, false, ◌&&◌, ◌||◌, nat_eq, List, [], ◌∷◌, get_or, Option, Some, None, arith}
use Rattle.std.specs.Cmp.{IsStrictWeakOrder}
use Rattle.std.specs.List.Sorted.{IsSortedBy}
use Rattle.std.proofs.lemmas.Bool.{and_from, and_parts, eqb-true, false_from_ne_true, both_ways, or_left}
use Rattle.lx_words.proofs.Tests.{eq_self}
use Rattle.lx_caps.specs.declared.Atom.{Atom}
use Rattle.lx_caps.specs.declared.Atom.TheVariants.{Byte, Call, Ref}
use Rattle.lx_caps.specs.Order.{is_before, is_behind, same_atom, stands_in, AreAllBehind}
use Rattle.lx_caps.specs.Once.{rising}
use Rattle.lx_caps.proofs.Orders.{not_before_itself, at_most-trans, before-at_most}

pub atom_order : IsStrictWeakOrder is_before
atom_order = record { one_way = before-at_most; chain = λ x y z xy yz. at_most-trans z y x yz xy }

pub same_itself : (x : Atom) → same_atom x x ≡ true
same_itself (Byte a) = eq_self a
same_itself (Call a) = eq_self a
same_itself (Ref t a) = and_from (nat_eq t t) (nat_eq a a) (eq_self t) (eq_self a)

pub same_from : (x y : Atom) → same_atom x y ≡ true → x ≡ y
same_from (Byte a) (Byte b) is = ap Byte (eqb-true a b is)
same_from (Byte a) (Call b) is = absurd (cc)
same_from (Byte a) (Ref u b) is = absurd (cc)
same_from (Call a) (Byte b) is = absurd (cc)
same_from (Call a) (Call b) is = ap Call (eqb-true a b is)
same_from (Call a) (Ref u b) is = absurd (cc)
same_from (Ref t a) (Byte b) is = absurd (cc)
same_from (Ref t a) (Call b) is = absurd (cc)
same_from (Ref t a) (Ref u b) is =
    let i = and_parts (nat_eq t u) (nat_eq a b) is in
    let e : t ≡ u = eqb-true t u i.0 in
    let f : a ≡ b = eqb-true a b i.1 in
    λ j. Ref (e j) (f j)

-- x < y and y ≤ z give x < z
pub before_chain : (x y z : Atom) → is_before x y ≡ true → is_before z y ≡ false → is_before x z ≡ true
before_chain x y z xy yz = by (is_before x z) refl
  where
    by : (b : Bool) → is_before x z ≡ b → b ≡ true
    by true e = refl
    by false e = absurd (both_ways (is_before x y) (at_most-trans y z x yz e) xy)

pub behind_chain : (last : Option Atom) (x z : Atom) → is_behind last x ≡ true → is_before x z ≡ true → is_behind last z ≡ true
behind_chain None x z lx xz = refl
behind_chain (Some l) x z lx xz = before_chain l x z lx (before-at_most x z xz)

before_differs : (x y : Atom) → is_before x y ≡ true → same_atom x y ≡ false
before_differs x y is =
    false_from_ne_true (same_atom x y) (λ same. both_ways (is_before x y) (ap (is_before x) (sym (same_from x y same)) ∙ not_before_itself x) is)

behind_differs : (x y : Atom) → is_before x y ≡ true → same_atom y x ≡ false
behind_differs x y is =
    false_from_ne_true (same_atom y x) (λ same. both_ways (is_before x y) (ap (is_before x) (same_from y x same) ∙ not_before_itself x) is)

-- no atom comes before the one in front of it
abbrev Rises : List Atom → Type 0
Rises [] = Unit {0}
Rises (x ∷ []) = Unit {0}
Rises (x ∷ y ∷ ys) = (is_before y x ≡ false) × Rises (y ∷ ys)

rest_rises : (x : Atom) (xs : List Atom) → Rises (x ∷ xs) → Rises xs
rest_rises x [] r = tt
rest_rises x (y ∷ ys) r = r.1

pub rises : (xs : List Atom) → IsSortedBy is_before xs → Rises xs
rises [] sorted = tt
rises (x ∷ []) sorted = tt
rises (x ∷ y ∷ ys) sorted = (
  sorted 0 x (omega arith) (omega arith),
  rises (y ∷ ys) (λ k d low high.
      let e : suc k + 1 ≡ suc (k + 1) = omega arith in
      subst (λ n. is_before (get_or (x ∷ y ∷ ys) n d) (get_or (y ∷ ys) k d) ≡ false) e (sorted (suc k) d (omega arith) (omega (arith, high)))),
)

-- an atom before the first one is not among them
absent : (y x : Atom) (xs : List Atom) → is_before y x ≡ true → Rises (x ∷ xs) → stands_in y (x ∷ xs) ≡ false
absent y x [] lt r = ap (λ b. b || false) (behind_differs y x lt)
absent y x (z ∷ zs) lt r = ap (λ b. b || stands_in y (z ∷ zs)) (behind_differs y x lt) ∙ absent y z zs (before_chain y x z lt r.0) r.1

and_none : (a b : Bool) → (a ≡ true → b ≡ false) → (a && b) ≡ false
and_none true b none = none refl
and_none false b none = refl

later : (x z : Atom) (xs : List Atom) → same_atom x z ≡ false → stands_in z (x ∷ xs) ≡ stands_in z xs
later x z xs other = ap (λ b. b || stands_in z xs) other

-- the first atom of those that are left, which comes behind the last one or is the last one
rising_step : (p : Atom → Bool) (last : Option Atom) (x : Atom) (xs : List Atom) (b : Bool) → is_behind last x ≡ b → Rises (x ∷ xs)
    → ((z : Atom) → is_behind last z ≡ true → stands_in z (x ∷ xs) ≡ p z)
    → ((now : Option Atom) → ((z : Atom) → is_behind now z ≡ true → stands_in z xs ≡ p z) → AreAllBehind p now (rising now xs))
    → AreAllBehind p last (elim b [ false ↦ rising last xs | true ↦ x ∷ rising (Some x) xs ])
rising_step p last x xs true e r among more = (
  (
    and_from (is_behind last x) (p x) e (sym (among x e) ∙ or_left (same_atom x x) (stands_in x xs) (same_itself x)),
    λ y before. and_none (is_behind last y) (p y) (λ behind. sym (among y behind) ∙ absent y x xs before r),
  ),
  more (Some x) (λ z behind. sym (later x z xs (before_differs x z behind)) ∙ among z (behind_chain last x z e behind)),
)
rising_step p last x xs false e r among more =
    more last (λ z behind.
    sym (later x z xs (false_from_ne_true (same_atom x z) (λ same. both_ways (is_behind last z) (ap (is_behind last) (sym (same_from x z same)) ∙ e) behind))) ∙ among z behind)

-- what rises are all atoms that stand in a sorted list
pub all_rising : (p : Atom → Bool) (last : Option Atom) (xs : List Atom) → Rises xs → ((x : Atom) → is_behind last x ≡ true → stands_in x xs ≡ p x) → AreAllBehind p last (rising last xs)
all_rising p last [] r among = λ x. and_none (is_behind last x) (p x) (λ behind. sym (among x behind))
all_rising p last (x ∷ xs) r among = rising_step p last x xs (is_behind last x) refl r among (λ now among_rest. all_rising p now xs (rest_rises x xs r) among_rest)

-- one test for another that says the same
pub all_behind-same : (p q : Atom → Bool) (last : Option Atom) (xs : List Atom) → ((x : Atom) → p x ≡ q x) → AreAllBehind p last xs → AreAllBehind q last xs
all_behind-same p q last xs same = subst (λ (f : Atom → Bool). AreAllBehind f last xs) (λ j x. same x j)
