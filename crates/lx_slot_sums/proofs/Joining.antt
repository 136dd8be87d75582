-- The sum of two lists is what their sums are joined to.
use Rattle.std.proofs.Common.{◌≡◌, ◌∙◌, refl, sym, ap, ℕ, zero, suc, ◌<◌, min, Bool, true, false, not, ◌&&◌, ◌||◌, Option, Some, None, List, [], ◌∷◌, ◌++◌, length, bytes_eq, nat_eq, nat_lt, if◌then◌else◌, arith}
use Rattle.std.specs.Prelude.{find, option_and_then}
use Rattle.std.specs.List.{list_any}
use Rattle.std.specs.Option.{option_or}
use Rattle.std.proofs.lemmas.List.Folds.{find-append}
use Rattle.std.proofs.lemmas.Bool.Decides.{nat_tests}
use Rattle.std.proofs.lemmas.Slice.Eq.{bytes_eq-Decides}
use Rattle.lx_words.proofs.Lists.{bytes_itself}
use Rattle.lx_words.proofs.Tests.{true_eq, or_and}
use Rattle.lx_annot.specs.declared.interface.Interface.{Interface}
use Rattle.lx_ir.specs.declared.module.Module.{Module}
use Rattle.lx_slot_types.specs.Sites.{FieldName}
use Rattle.lx_slot_types.specs.Gets.{below, types_field}
use Rattle.lx_slot_types.specs.Texts.{differ, slot_text}
use Rattle.lx_slot_sums.specs.Classes.{IsClassed, class_differs}
use Rattle.lx_slot_sums.specs.Sums.{no_sum, single, typed_among, first_by, other_by, sum_by, sum_of, lesser, other_for, joined_by, joined}

-- one number more

below_one : (p : ℕ → Bool) (k : ℕ) → find p (below (suc k)) ≡ option_or (find p (below k)) (if p k then Some k else None)
below_one p k = find-append p (below k) (k ∷ [])

abbrev LessThan : ℕ → Option ℕ → Type 0
LessThan n o = (a : ℕ) → o ≡ Some a → a < n

one_less : (n : ℕ) (x : Option ℕ) (b : Bool) → LessThan n x → LessThan (suc n) (option_or x (if b then Some n else None))
one_less n (Some u) b h a e = let r : a < n = h a e in omega (arith, r)
one_less n None true h a e = let r : n ≡ a = cc in omega (arith, r)
one_less n None false h a e = absurd (cc)

-- what is found below a number is less
pub found_less : (p : ℕ → Bool) (n : ℕ) → LessThan n (find p (below n))
found_less p zero a e = absurd (cc)
found_less p (suc n) a e = one_less n (find p (below n)) (p n) (found_less p n) a (sym (below_one p n) ∙ e)

min_left : (u n : ℕ) → u < n → u ≡ min u n
min_left u n h = omega (arith, h)

min_right : (u n : ℕ) → u < n → u ≡ min n u
min_right u n h = omega (arith, h)

min_same : (n : ℕ) → n ≡ min n n
min_same n = omega arith

-- the lesser of what two tests find, with one number more
lesser_step : (n : ℕ) (x y : Option ℕ) (b c : Bool) → LessThan n x → LessThan n y → option_or (lesser x y) (if b || c then Some n else None) ≡ lesser (option_or x (if b then Some n else None)) (option_or y (if c then Some n else None))
lesser_step n None None true true h k = ap Some (min_same n)
lesser_step n None None true false h k = refl
lesser_step n None None false true h k = refl
lesser_step n None None false false h k = refl
lesser_step n None (Some v) true c h k = ap Some (min_right v n (k v refl))
lesser_step n None (Some v) false c h k = refl
lesser_step n (Some u) None b true h k = ap Some (min_left u n (h u refl))
lesser_step n (Some u) None b false h k = refl
lesser_step n (Some u) (Some v) b c h k = refl

pub find_either : (p q : ℕ → Bool) (n : ℕ) → find (λ t. p t || q t) (below n) ≡ lesser (find p (below n)) (find q (below n))
find_either p q zero = refl
find_either p q (suc n) =
    below_one (λ t. p t || q t) n
    ∙ ap (λ o. option_or o (if p n || q n then Some n else None)) (find_either p q n)
    ∙ lesser_step n (find p (below n)) (find q (below n)) (p n) (q n) (found_less p n) (found_less q n)
    ∙ (λ j. lesser (sym (below_one p n) j) (sym (below_one q n) j))

-- a further test

none_and_by : (b c : Bool) (x : ℕ) (o w : Option ℕ) → (if b then Some x else o) ≡ None → (o ≡ None → w ≡ None) → (if b && c then Some x else w) ≡ None
none_and_by true c x o w h rest = absurd (cc)
none_and_by false c x o w h rest = rest h

none_and : (p d : ℕ → Bool) (xs : List ℕ) → find p xs ≡ None → find (λ t. p t && d t) xs ≡ None
none_and p d [] h = refl
none_and p d (x ∷ xs) h = none_and_by (p x) (d x) x (find p xs) (find (λ t. p t && d t) xs) h (none_and p d xs)

found_and_by : (b c : Bool) (x a : ℕ) (o w : Option ℕ) → (if b then Some x else o) ≡ Some a → (x ≡ a → c ≡ true) → (o ≡ Some a → w ≡ Some a) → (if b && c then Some x else w) ≡ Some a
found_and_by true true x a o w h is rest = h
found_and_by true false x a o w h is rest = let e : x ≡ a = cc in absurd (cc (is e))
found_and_by false c x a o w h is rest = rest h

found_and : (p d : ℕ → Bool) (a : ℕ) (xs : List ℕ) → find p xs ≡ Some a → d a ≡ true → find (λ t. p t && d t) xs ≡ Some a
found_and p d a [] h k = absurd (cc)
found_and p d a (x ∷ xs) h k = found_and_by (p x) (d x) x a (find p xs) (find (λ t. p t && d t) xs) h (λ e. ap d e ∙ k) (λ g. found_and p d a xs g k)

lesser_none : (x : Option ℕ) → lesser x None ≡ x
lesser_none None = refl
lesser_none (Some a) = refl

module _ (i : Interface) where
  -- slot types of the same text differ from the same ones

  not_false : (b : Bool) → not b ≡ false → b ≡ true
  not_false true h = refl
  not_false false h = absurd (cc)

  pub alike : (s t : ℕ) → differ i s t ≡ false → (u : ℕ) → differ i t u ≡ differ i s u
  alike s t h u =
      let e : slot_text i s ≡ slot_text i t = (bytes_eq-Decides (slot_text i s) (slot_text i t)).0 (not_false (bytes_eq (slot_text i s) (slot_text i t)) h) in
      ap (λ a. not (bytes_eq a (slot_text i u))) (sym e)

  other_either : (p q : ℕ → Bool) (s : ℕ) → other_by i (λ t. p t || q t) s ≡ lesser (other_by i p s) (other_by i q s)
  other_either p q s =
      ap (λ r. find r (below (length i.slots))) (λ j t. or_and (p t) (q t) (differ i s t) j)
      ∙ find_either (λ t. p t && differ i s t) (λ t. q t && differ i s t) (length i.slots)

  -- the first that differs from f is what the list adds
  other_by_first : (b : Bool) (p : ℕ → Bool) (f x : ℕ) → differ i f x ≡ b → first_by i p ≡ Some x → (if b then Some x else other_by i p x) ≡ other_by i p f
  other_by_first true p f x d e = sym (found_and p (differ i f) x (below (length i.slots)) e d)
  other_by_first false p f x d e = ap (λ r. find r (below (length i.slots))) (λ j t. p t && alike f x d t j)

  adds : (p : ℕ → Bool) (f x : ℕ) → first_by i p ≡ Some x → other_for (differ i) f x (sum_by i p).other ≡ other_by i p f
  adds p f x e =
      ap (λ o. other_for (differ i) f x (option_and_then (other_by i p) o)) e
      ∙ other_by_first (differ i f x) p f x refl e

  module _ (p q : ℕ → Bool) where
    first_either : (x y : Option ℕ) → first_by i p ≡ x → first_by i q ≡ y → first_by i (λ t. p t || q t) ≡ lesser x y
    first_either x y e g = find_either p q (length i.slots) ∙ (λ j. lesser (e j) (g j))

    join_by : (x y : Option ℕ) → first_by i p ≡ x → first_by i q ≡ y → joined_by (differ i) (sum_by i p) (sum_by i q) x y ≡ sum_by i (λ t. p t || q t)
    join_by None y e g =
        let f : first_by i q ≡ first_by i (λ t. p t || q t) = g ∙ sym (first_either None y e g) in
        let o : (s : ℕ) → other_by i q s ≡ other_by i (λ t. p t || q t) s =
        λ s. sym (other_either p q s ∙ ap (λ w. lesser w (other_by i q s)) (none_and p (differ i s) (below (length i.slots)) e)) in
        λ j. record { first = f j; other = option_and_then (λ s. o s j) (f j) }
    join_by (Some x) None e g =
        let f : first_by i p ≡ first_by i (λ t. p t || q t) = e ∙ sym (first_either (Some x) None e g) in
        let o : (s : ℕ) → other_by i p s ≡ other_by i (λ t. p t || q t) s =
        λ s. sym (other_either p q s ∙ ap (λ w. lesser (other_by i p s) w) (none_and q (differ i s) (below (length i.slots)) g) ∙ lesser_none (other_by i p s)) in
        λ j. record { first = f j; other = option_and_then (λ s. o s j) (f j) }
    join_by (Some x) (Some y) e g =
        let f : Some (min x y) ≡ first_by i (λ t. p t || q t) = sym (first_either (Some x) (Some y) e g) in
        let a : other_for (differ i) (min x y) x (sum_by i p).other ≡ other_by i p (min x y) = adds p (min x y) x e in
        let b : other_for (differ i) (min x y) y (sum_by i q).other ≡ other_by i q (min x y) = adds q (min x y) y g in
        let o : lesser (other_for (differ i) (min x y) x (sum_by i p).other) (other_for (differ i) (min x y) y (sum_by i q).other) ≡ option_and_then (other_by i (λ t. p t || q t)) (first_by i (λ t. p t || q t)) =
        (λ j. lesser (a j) (b j)) ∙ sym (other_either p q (min x y)) ∙ ap (option_and_then (other_by i (λ t. p t || q t))) f in
        λ j. record { first = f j; other = o j }

    pub join_sums : joined (differ i) (sum_by i p) (sum_by i q) ≡ sum_by i (λ t. p t || q t)
    join_sums = join_by (first_by i p) (first_by i q) refl refl

  -- lists of fields

  pub any_append : {A : Type 0} (t : A → Bool) (xs ys : List A) → list_any t (xs ++ ys) ≡ (list_any t xs || list_any t ys)
  any_append t [] ys = refl
  any_append t (x ∷ xs) ys = by (t x) (any_append t xs ys)
    where
      by : (b : Bool) → list_any t (xs ++ ys) ≡ (list_any t xs || list_any t ys) → (b || list_any t (xs ++ ys)) ≡ ((b || list_any t xs) || list_any t ys)
      by true h = refl
      by false h = h

  pub join_lists : (m : Module) (xs ys : List FieldName) → joined (differ i) (sum_of i m xs) (sum_of i m ys) ≡ sum_of i m (xs ++ ys)
  join_lists m xs ys =
      join_sums (typed_among i m xs) (typed_among i m ys)
      ∙ ap (sum_by i) (λ j s. sym (any_append (λ name. types_field i m name s) xs ys) j)

-- The same by classes.

module _ (i : Interface) (classes : List ℕ) (classed : IsClassed i classes) where
  same_other : (b c : Bool) (own : ℕ) (other : Option ℕ) → b ≡ c → (if b then Some own else other) ≡ (if c then Some own else other)
  same_other b c own other e = ap (λ d. if d then Some own else other) e

  min_less : (x y n : ℕ) → x < n → y < n → min x y < n
  min_less x y n h k = omega (arith, h, k)

  by_classes : (p q : ℕ → Bool) (x y : Option ℕ) → first_by i p ≡ x → first_by i q ≡ y → joined_by (class_differs classes) (sum_by i p) (sum_by i q) x y ≡ joined_by (differ i) (sum_by i p) (sum_by i q) x y
  unfolding IsClassed
  by_classes p q None y e g = refl
  by_classes p q (Some x) None e g = refl
  by_classes p q (Some x) (Some y) e g =
      let h : x < length i.slots = found_less p (length i.slots) x e in
      let k : y < length i.slots = found_less q (length i.slots) y g in
      let l : min x y < length i.slots = min_less x y (length i.slots) h k in
      let a = classed (min x y) x l h in
      let b = classed (min x y) y l k in
      λ j. record { first = Some (min x y); other = lesser (if a j then Some x else (sum_by i p).other) (if b j then Some y else (sum_by i q).other) }

  pub join_by_classes : (p q : ℕ → Bool) → joined (class_differs classes) (sum_by i p) (sum_by i q) ≡ sum_by i (λ t. p t || q t)
  join_by_classes p q = by_classes p q (first_by i p) (first_by i q) refl refl ∙ join_sums i p q

  pub join_lists_by : (m : Module) (xs ys : List FieldName) → joined (class_differs classes) (sum_of i m xs) (sum_of i m ys) ≡ sum_of i m (xs ++ ys)
  join_lists_by m xs ys = by_classes (typed_among i m xs) (typed_among i m ys) (first_by i (typed_among i m xs)) (first_by i (typed_among i m ys)) refl refl ∙ join_lists i m xs ys

-- Lists of none, and of one slot type.

nothing : (xs : List ℕ) → find (λ (x : ℕ). false) xs ≡ None
nothing [] = refl
nothing (x ∷ xs) = nothing xs

pub no_fields : (i : Interface) (p : ℕ → Bool) → ((t : ℕ) → p t ≡ false) → no_sum ≡ sum_by i p
no_fields i p h =
    let e : None ≡ first_by i p = sym (ap (λ r. find r (below (length i.slots))) (λ j t. h t j) ∙ nothing (below (length i.slots))) in
    λ j. record { first = e j; other = option_and_then (other_by i p) (e j) }

pub no_list : (i : Interface) (m : Module) → no_sum ≡ sum_of i m []
no_list i m = no_fields i (typed_among i m []) (λ t. refl)

-- the number itself is found

beyond : (s n : ℕ) (b c : Bool) → nat_lt s n ≡ b → nat_eq s n ≡ c → option_or (if b then Some s else None) (if c then Some n else None) ≡ (if nat_lt s (suc n) then Some s else None)
beyond s n true c h k = let e : true ≡ nat_lt s (suc n) = grind (arith, nat_tests, h) in ap (λ b. if b then Some s else None) e
beyond s n false true h k = let e : true ≡ nat_lt s (suc n) = grind (arith, nat_tests, h, k) in ap Some (sym (true_eq s n k)) ∙ ap (λ b. if b then Some s else None) e
beyond s n false false h k = let e : false ≡ nat_lt s (suc n) = grind (arith, nat_tests, h, k) in ap (λ b. if b then Some s else None) e

none_below : (s : ℕ) → false ≡ nat_lt s 0
none_below s = grind (arith, nat_tests)

finds_number : (s n : ℕ) → find (nat_eq s) (below n) ≡ (if nat_lt s n then Some s else None)
finds_number s zero = ap (λ b. if b then Some s else None) (none_below s)
finds_number s (suc n) =
    below_one (nat_eq s) n
    ∙ ap (λ o. option_or o (if nat_eq s n then Some n else None)) (finds_number s n)
    ∙ beyond s n (nat_lt s n) (nat_eq s n) refl refl

module _ (i : Interface) (s : ℕ) where
  differs_not : (t : ℕ) (b : Bool) → nat_eq s t ≡ b → (b && differ i s t) ≡ false
  differs_not t false e = refl
  differs_not t true e = ap (λ u. differ i s u) (sym (true_eq s t e)) ∙ ap not (bytes_itself (slot_text i s))

  no_other : (o : Option ℕ) → o ≡ first_by i (nat_eq s) → None ≡ option_and_then (other_by i (nat_eq s)) o
  no_other None e = refl
  no_other (Some t) e =
      let h : s ≡ t = found_self (nat_lt s (length i.slots)) t (sym (finds_number s (length i.slots)) ∙ sym e) in
      sym (ap (other_by i (nat_eq s)) (sym h) ∙ ap (λ r. find r (below (length i.slots))) (λ j u. differs_not u (nat_eq s u) refl j) ∙ nothing (below (length i.slots)))
    where
      found_self : (b : Bool) (t : ℕ) → (if b then Some s else None) ≡ Some t → s ≡ t
      found_self true t e = cc
      found_self false t e = absurd (cc)

  pub one_slot : single (length i.slots) s ≡ sum_by i (nat_eq s)
  one_slot =
      let e : (if nat_lt s (length i.slots) then Some s else None) ≡ first_by i (nat_eq s) = sym (finds_number s (length i.slots)) in
      let o : None ≡ option_and_then (other_by i (nat_eq s)) (first_by i (nat_eq s)) = no_other (first_by i (nat_eq s)) refl in
      λ j. record { first = e j; other = o j }
