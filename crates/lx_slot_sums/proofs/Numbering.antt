-- Numbers of names: the same number is the same name.
use Rattle.std.proofs.Common.{◌≡◌, ◌∙◌, refl, sym, ap, ℕ, zero, suc, ◌+◌, ◌<◌, ◌≤◌, Bool, true, false, ◌&&◌, ◌||◌, cond, Some, None, List, [], ◌∷◌, length, map, get_or, bytes_eq, nat_eq, arith}
use Rattle.std.specs.Prelude.{position, find, slice_get}
use Rattle.std.specs.List.{position_from}
use Rattle.std.specs.Borrow.{Bor}
use Rattle.std.proofs.lemmas.Iterator.Adapters.{position_from-zero}
use Rattle.lx_words.proofs.Lists.{found_place, same_bytes, bytes_itself, flipped}
use Rattle.lx_words.proofs.Tests.{same_tests, true_eq, eq_true}
use Rattle.lx_annot.specs.Canonical.{Text}
use Rattle.lx_annot.specs.declared.interface.Field.{Field}
use Rattle.lx_slot_sums.specs.Classes.{at_text, place_or_none}
use Rattle.lx_slot_sums.specs.Fields.{AreShort, HasNames, number_among, typed_by}
use Rattle.lx_slot_sums.proofs.Classed.{stands}

abbrev names : List Field → List Text
names fs = map (λ (f : Field). f.name) fs

abbrev has : Text → Field → Bool
has name f = bytes_eq f.name name

moved : (t : Text → Bool) (fs : List Field) (k : ℕ) → position_from (λ (f : Field). t f.name) k fs ≡ position_from t k (names fs)
moved t [] k = refl
moved t (f ∷ fs) k = ap (cond (t f.name) (Some k)) (moved t fs (k + 1))

-- the number of a name, among the names alone
among_names : (fs : List Field) (name : Text) → number_among fs name ≡ position (λ u. bytes_eq u name) (names fs)
among_names fs name = position_from-zero (has name) fs ∙ moved (λ u. bytes_eq u name) fs 0 ∙ sym (position_from-zero (λ u. bytes_eq u name) (names fs))

found_text : (xs : List Text) (t u : Text) → find (λ x. bytes_eq x t) xs ≡ Some u → u ≡ t
found_text [] t u e = absurd (cc)
found_text (x ∷ xs) t u e = by (bytes_eq x t) refl e (found_text xs t u)
  where
    some_is : Some x ≡ Some u → u ≡ x
    some_is h = cc

    by : (b : Bool) → bytes_eq x t ≡ b → cond b (Some x) (find (λ y. bytes_eq y t) xs) ≡ Some u → (find (λ y. bytes_eq y t) xs ≡ Some u → u ≡ t) → u ≡ t
    by true q h rest = some_is h ∙ same_bytes x t q
    by false q h rest = rest h

-- a name that a statement has is the other that has its number
same_place : (fs : List Field) (a b : Text) (j n : ℕ) → slice_get (names fs) j ≡ Some a → place_or_none (number_among fs a) ≡ n → number_among fs b ≡ Some n → a ≡ b
same_place fs a b j n at p q =
    let x : slice_get (names fs) n ≡ Some a = ap (slice_get (names fs)) (sym p ∙ ap place_or_none (among_names fs a)) ∙ stands (names fs) j a at in
    let y : slice_get (names fs) n ≡ find (λ u. bytes_eq u b) (names fs) = found_place (λ u. bytes_eq u b) (names fs) n (sym (among_names fs b) ∙ q) in
    found_text (names fs) b a (sym y ∙ x)

named_at : (fs : List Field) (j : ℕ) (f : Field) → j < length fs → f ≡ get_or fs j f → slice_get (names fs) j ≡ Some f.name
named_at [] j f l e = absurd (omega (arith, l))
named_at (x ∷ xs) zero f l e = let q : f ≡ x = e in ap (λ (y : Field). Some y.name) (sym q)
named_at (x ∷ xs) (suc j) f l e = named_at xs j f (omega (arith, l)) e

-- a statement's name has the number of another name exactly where they are the same
pub same_number : (fs : List Field) (f : Field) (j n : ℕ) (name : Text) → j < length fs → f ≡ get_or fs j f → number_among fs name ≡ Some n → nat_eq (place_or_none (number_among fs f.name)) n ≡ bytes_eq f.name name
same_number fs f j n name within e q =
    same_tests (nat_eq (place_or_none (number_among fs f.name)) n) (bytes_eq f.name name)
    (λ h.
    let s : f.name ≡ name = same_place fs f.name name j n (named_at fs j f within e) (true_eq (place_or_none (number_among fs f.name)) n h) q in
    ap (bytes_eq f.name) (sym s) ∙ bytes_itself f.name)
    (λ h.
    let s : f.name ≡ name = same_bytes f.name name h in
    eq_true (place_or_none (number_among fs f.name)) n (ap (λ u. place_or_none (number_among fs u)) s ∙ ap place_or_none q))

-- a name without a number

unnamed_from : (fs : List Field) (from : ℕ) (name : Text) (k s : ℕ) → position_from (has name) from fs ≡ None → typed_by fs name k s ≡ false
unnamed_from [] from name k s e = refl
unnamed_from (f ∷ fs) from name k s e = by (bytes_eq f.name name) refl e (unnamed_from fs (from + 1) name k s)
  where
    by : (b : Bool) → bytes_eq f.name name ≡ b → cond b (Some from) (position_from (has name) (from + 1) fs) ≡ None → (position_from (has name) (from + 1) fs ≡ None → typed_by fs name k s ≡ false) → typed_by (f ∷ fs) name k s ≡ false
    by true q h rest = absurd (cc)
    by false q h rest =
        let t : bytes_eq name f.name ≡ false = flipped name f.name ∙ q in
        let r : typed_by fs name k s ≡ false = rest h in
        λ j. (t j && (nat_eq f.index k && nat_eq f.slot s)) || r j

pub unnamed : (fs : List Field) (name : Text) (k s : ℕ) → None ≡ number_among fs name → typed_by fs name k s ≡ false
unnamed fs name k s e = unnamed_from fs 0 name k s (sym (e ∙ position_from-zero (has name) fs))

-- a name that is longer than those of an interface

longer : (xs ys : List ℕ) → length ys < length xs → bytes_eq ys xs ≡ false
longer [] ys h = absurd (omega (arith, h))
longer (x ∷ xs) [] h = refl
longer (x ∷ xs) (y ∷ ys) h = ap (λ b. nat_eq y x && b) (longer xs ys (omega (arith, h))) ∙ and_false (nat_eq y x)
  where
    and_false : (b : Bool) → (b && false) ≡ false
    and_false true = refl
    and_false false = refl

nowhere : (fields : List Field) (n : ℕ) (name : List ℕ) (from : ℕ) → ((j : ℕ) → (d : Field) → j < length fields → length (get_or fields j d).name ≤ n) → n < length name → None ≡ position_from (has name) from fields
nowhere [] n name from h l = refl
nowhere (f ∷ fs) n name from h l =
    let a : length f.name ≤ n = h 0 f (omega arith) in
    let e : bytes_eq f.name name ≡ false = longer name f.name (omega (arith, a, l)) in
    nowhere fs n name (from + 1) (λ j d m. h (suc j) d (omega (arith, m))) l
    ∙ ap (λ b. cond b (Some from) (position_from (has name) (from + 1) fs)) (sym e)

pub too_long : (fields : List Field) (n : ℕ) (name : List ℕ) → AreShort fields n → n < length name → None ≡ number_among fields name
unfolding AreShort
too_long fields n name h l = nowhere fields n name 0 h l ∙ sym (position_from-zero (has name) fields)

pub has_names : (fields : List Field) (table : List (Bor (List ℕ) × ℕ)) → ((name : List ℕ) → at_text table name ≡ number_among fields name) → HasNames fields table
unfolding HasNames
has_names fields table h = h

pub has_name : (fields : List Field) (table : List (Bor (List ℕ) × ℕ)) (name : List ℕ) → HasNames fields table → at_text table name ≡ number_among fields name
unfolding HasNames
has_name fields table name h = h name
