-- The sum of a field with one statement more.
use Rattle.std.proofs.Common.{◌≡◌, ◌∙◌, refl, sym, ap, subst, ℕ, ◌+◌, ◌<◌, ◌≤◌, Bool, true, false, ◌&&◌, ◌||◌, cond, Some, List, [], ◌∷◌, ◌++◌, length, take, get_or, bytes_eq, nat_eq}
use Rattle.std.proofs.Math.Bool.{and_assoc}
use Rattle.std.proofs.lemmas.Bool.{and_parts}
use Rattle.std.proofs.lemmas.List.{take_more, take_all}
use Rattle.lx_words.proofs.Lists.{same_bytes, flipped}
use Rattle.lx_words.proofs.Tests.{true_eq}
use Rattle.lx_annot.specs.declared.interface.Field.{Field}
use Rattle.lx_annot.specs.declared.interface.Interface.{Interface}
use Rattle.lx_slot_sums.specs.declared.sums.SlotSum.{SlotSum}
use Rattle.lx_slot_sums.specs.Classes.{IsClassed, class_differs, place_or_none}
use Rattle.lx_slot_sums.specs.Sums.{joined, single, sum_by, sum_or_none}
use Rattle.lx_slot_sums.specs.Fields.{Table, HasFields, at_field, is_key, number_among, sum_at, typed_by}
use Rattle.lx_slot_sums.proofs.Joining.{any_append, join_by_classes, no_fields, one_slot}
use Rattle.lx_slot_sums.proofs.Numbering.{same_number}

abbrev Sums : Interface → List Field → Table → Type 0
Sums i fields table = (name : List ℕ) → (n k : ℕ) → number_among i.fields name ≡ Some n → sum_at table n k ≡ sum_by i (typed_by fields name k)

-- the statement types this field
abbrev is_of : Field → List ℕ → ℕ → Bool
is_of f name k = bytes_eq f.name name && nat_eq f.index k

or_none : (a : Bool) → (a || (false || false)) ≡ a
or_none true = refl
or_none false = refl

or_last : (a b : Bool) → (a || (b || false)) ≡ (a || b)
or_last true b = refl
or_last false true = refl
or_last false false = refl

module _ (i : Interface) (classes : List ℕ) (classed : IsClassed i classes) (before : List Field) (f : Field) (old : Table) (name : List ℕ) (n k : ℕ) (q : number_among i.fields name ≡ Some n) where
  -- the statement types the field with the slot type, by whether it types the field
  types_by : (b : Bool) → is_of f name k ≡ b → (s : ℕ) → (bytes_eq name f.name && (nat_eq f.index k && nat_eq f.slot s)) ≡ (b && nat_eq f.slot s)
  types_by b e s = sym (and_assoc (bytes_eq name f.name) (nat_eq f.index k) (nat_eq f.slot s)) ∙ ap (λ c. (c && nat_eq f.index k) && nat_eq f.slot s) (flipped name f.name) ∙ ap (λ c. c && nat_eq f.slot s) e

  more : (s : ℕ) → typed_by (before ++ f ∷ []) name k s ≡ (typed_by before name k s || ((bytes_eq name f.name && (nat_eq f.index k && nat_eq f.slot s)) || false))
  more s = any_append i (λ (g : Field). bytes_eq name g.name && (nat_eq g.index k && nat_eq g.slot s)) before (f ∷ [])

  step_by : (b : Bool) (sum : SlotSum) (number : ℕ) → is_of f name k ≡ b → number ≡ place_or_none (number_among i.fields f.name) → Sums i before old → sum ≡ joined (class_differs classes) (sum_at old number f.index) (single (length i.slots) f.slot) → sum_or_none (cond b (Some sum) (at_field old n k)) ≡ sum_by i (typed_by (before ++ f ∷ []) name k)
  step_by false sum number e w h is =
      h name n k q ∙ ap (sum_by i) (λ j s. sym (more s ∙ ap (λ c. typed_by before name k s || (c || false)) (types_by false e s) ∙ or_none (typed_by before name k s)) j)
  step_by true sum number e w h is =
      let p = and_parts (bytes_eq f.name name) (nat_eq f.index k) e in
      let same : f.name ≡ name = same_bytes f.name name p.0 in
      let u : number ≡ n = w ∙ ap (λ t. place_or_none (number_among i.fields t)) same ∙ ap place_or_none q in
      let m : f.index ≡ k = true_eq f.index k p.1 in
      is
      ∙ (λ j. joined (class_differs classes) (sum_at old (u j) (m j)) (one_slot i f.slot j))
      ∙ ap (λ x. joined (class_differs classes) x (sum_by i (nat_eq f.slot))) (h name n k q)
      ∙ join_by_classes i classes classed (typed_by before name k) (nat_eq f.slot)
      ∙ ap (sum_by i) (λ j s. sym (more s ∙ ap (λ c. typed_by before name k s || (c || false)) (types_by true e s) ∙ or_last (typed_by before name k s) (nat_eq f.slot s)) j)

-- a statement more, as the loop goes over it
pub loop_step : (i : Interface) (classes : List ℕ) (fields : List Field) (x : ℕ) (f : Field) (old new : Table) (sum : SlotSum) (count number : ℕ) → IsClassed i classes → count ≡ length i.slots → fields ≡ i.fields → x < length fields → f ≡ get_or fields x f
    → number ≡ place_or_none (number_among i.fields f.name) → Sums i (take x fields) old
    → sum ≡ joined (class_differs classes) (sum_at old number f.index) (single count f.slot)
    → ((n k : ℕ) → at_field new n k ≡ cond (is_key number f.index n k) (Some sum) (at_field old n k))
    → Sums i (take (x + 1) fields) new
loop_step i classes fields x f old new sum count number classed c all h e w so_far is put name n k q =
    let t : take (x + 1) fields ≡ take x fields ++ f ∷ [] = take_more fields x f h ∙ ap (λ g. take x fields ++ g ∷ []) (sym e) in
    let s : sum ≡ joined (class_differs classes) (sum_at old number f.index) (single (length i.slots) f.slot) = is ∙ ap (λ j. joined (class_differs classes) (sum_at old number f.index) (single j f.slot)) c in
    let z : nat_eq number n ≡ bytes_eq f.name name = ap (λ m. nat_eq m n) w ∙ same_number i.fields f x n name (subst (λ gs. x < length gs) all h) (subst (λ gs. f ≡ get_or gs x f) all e) q in
    ap sum_or_none (put n k ∙ ap (λ b. cond (b && nat_eq f.index k) (Some sum) (at_field old n k)) z)
    ∙ step_by i classes classed (take x fields) f old name n k q (is_of f name k) sum number refl w so_far s
    ∙ ap (λ fs. sum_by i (typed_by fs name k)) (sym t)

pub none_typed : (i : Interface) (name : List ℕ) (n k : ℕ) → sum_at [] n k ≡ sum_by i (typed_by [] name k)
none_typed i name n k = no_fields i (typed_by [] name k) (λ t. refl)

pub has_fields : (i : Interface) (fields : List Field) (x : ℕ) (table : Table) → length fields ≤ x → fields ≡ i.fields → Sums i (take x fields) table → HasFields i table
unfolding HasFields
has_fields i fields x table past e h name n k q = h name n k q ∙ ap (λ fs. sum_by i (typed_by fs name k)) (take_all x fields past ∙ e)
