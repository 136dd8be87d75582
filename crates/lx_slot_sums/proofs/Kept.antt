-- What the parts of the sums of an interface and a module say.
use Rattle.std.proofs.Common.{◌≡◌, ◌∙◌, refl, sym, ap, subst, ℕ, zero, suc, ◌+◌, ◌<◌, ◌≤◌, max, Bool, true, false, ◌&&◌, ◌||◌, Option, Some, None, List, [], ◌∷◌, ◌++◌, length, map, get_or, nat_eq, nat_lt, arith, option_map, slice_get}
use Rattle.std.proofs.lemmas.Bool.Decides.{nat_tests}
use Rattle.std.proofs.lemmas.List.{get_or_default}
use Rattle.std.proofs.lemmas.Option.{slice_get-map}
use Rattle.std.specs.List.{list_any}
use Rattle.std.specs.Option.{option_flatten}
use Rattle.lx_words.proofs.Tests.{with_false}
use Rattle.lx_annot.specs.declared.interface.Field.{Field}
use Rattle.lx_annot.specs.declared.interface.Interface.{Interface}
use Rattle.lx_ir.specs.declared.module.Module.{Module}
use Rattle.lx_ir.specs.declared.types.NamedType.{NamedType}
use Rattle.lx_slot_types.specs.Sites.{FieldName, field_name}
use Rattle.lx_slot_types.specs.Gets.{has_name, types_field}
use Rattle.lx_slot_sums.specs.declared.sums.SlotSum.{SlotSum}
use Rattle.lx_slot_sums.specs.Classes.{IsClassed, class_differs}
use Rattle.lx_slot_sums.specs.Fields.{AreShort, HasFields, Table, number_among, sum_at, typed_by}
use Rattle.lx_slot_sums.specs.Known.{IsSummed, known}
use Rattle.lx_slot_sums.specs.Within.{HasLawfulTypes}
use Rattle.lx_slot_sums.specs.Sums.{Typing, joined, no_sum, sum_by, sum_of}
use Rattle.lx_slot_sums.proofs.Joining.{join_lists_by, no_fields}
use Rattle.lx_slot_sums.proofs.Numbering.{unnamed}

pub join_step : (t : Typing) (classes cs : List ℕ) (a b r : SlotSum) → IsClassed t.interface classes → cs ≡ classes → r ≡ joined (class_differs cs) a b → (xs ys : List FieldName) → a ≡ sum_of t.interface t.text xs → b ≡ sum_of t.interface t.text ys → r ≡ sum_of t.interface t.text (xs ++ ys)
join_step t classes cs a b r classed e is xs ys ea eb = is ∙ (λ j. joined (class_differs (e j)) (ea j) (eb j)) ∙ join_lists_by t.interface classes classed t.text xs ys

-- a field of a struct that has a name

module _ (i : Interface) (m : Module) (n k : ℕ) (name : List ℕ) where
  typed_by_name : (o : Option NamedType) → Some name ≡ option_map (λ (x : NamedType). x.name) o → (s : ℕ) → typed_by i.fields name k s ≡ list_any (λ (g : Field). has_name o g.name && (nat_eq g.index k && nat_eq g.slot s)) i.fields
  typed_by_name None e s = absurd (cc)
  typed_by_name (Some x) e s = let q : name ≡ x.name = cc in ap (λ l. typed_by i.fields l k s) q

  pub field_some : (r : SlotSum) (f : FieldName) → Some name ≡ option_map (λ (x : NamedType). x.name) (slice_get m.types n) → r ≡ sum_by i (typed_by i.fields name k) → field_name n k ≡ f → r ≡ sum_of i m (f ∷ [])
  field_some r f e is q =
      is
      ∙ ap (sum_by i) (λ j s. (typed_by_name (slice_get m.types n) e s ∙ with_false (types_field i m (field_name n k) s)) j)
      ∙ ap (λ g. sum_of i m (g ∷ [])) q

never : (fs : List Field) (p : Field → Bool) → list_any (λ (g : Field). false && p g) fs ≡ false
never [] p = refl
never (f ∷ fs) p = never fs p

none_or : (a : Bool) → a ≡ false → (a || false) ≡ false
none_or a e = ap (λ b. b || false) e

module _ (i : Interface) (m : Module) (n k : ℕ) where
  typed_nowhere : (o : Option NamedType) → None ≡ option_map (λ (x : NamedType). x.name) o → (s : ℕ) → list_any (λ (g : Field). has_name o g.name && (nat_eq g.index k && nat_eq g.slot s)) i.fields ≡ false
  typed_nowhere None e s = never i.fields (λ g. nat_eq g.index k && nat_eq g.slot s)
  typed_nowhere (Some x) e s = absurd (cc)

  pub field_none : (f : FieldName) → None ≡ option_map (λ (x : NamedType). x.name) (slice_get m.types n) → field_name n k ≡ f → no_sum ≡ sum_of i m (f ∷ [])
  field_none f e q =
      no_fields i (λ s. types_field i m (field_name n k) s || false) (λ s. none_or (types_field i m (field_name n k) s) (typed_nowhere (slice_get m.types n) e s))
      ∙ ap (λ g. sum_of i m (g ∷ [])) q

-- a field of a struct by the number of its name

has_field : (i : Interface) (table : Table) (name : List ℕ) (n k : ℕ) → HasFields i table → number_among i.fields name ≡ Some n → sum_at table n k ≡ sum_by i (typed_by i.fields name k)
unfolding HasFields
has_field i table name n k h q = h name n k q

abbrev number_of : Interface → NamedType → Option ℕ
number_of i t = number_among i.fields t.name

abbrev name_of : NamedType → List ℕ
name_of t = t.name

module _ (i : Interface) (m : Module) (n k : ℕ) (names : List (Option ℕ)) (are : names ≡ map (number_of i) m.types) (f : FieldName) (same : field_name n k ≡ f) where
  at_type : known names n ≡ option_flatten (option_map (number_of i) (slice_get m.types n))
  at_type = ap (λ xs. known xs n) are ∙ ap option_flatten (slice_get-map (number_of i) m.types n)

  pub field_numbered : (table : Table) (number : ℕ) (r : SlotSum) → HasFields i table → Some number ≡ known names n → r ≡ sum_at table number k → r ≡ sum_of i m (f ∷ [])
  field_numbered table number r has h is = by (slice_get m.types n) refl (h ∙ at_type)
    where
      by : (o : Option NamedType) → slice_get m.types n ≡ o → Some number ≡ option_flatten (option_map (number_of i) o) → r ≡ sum_of i m (f ∷ [])
      by None e g = absurd (cc)
      by (Some t) e g = field_some i m n k t.name r f (sym (ap (option_map name_of) e)) (is ∙ has_field i table t.name number k has (sym g)) same

  pub field_unnumbered : None ≡ known names n → no_sum ≡ sum_of i m (f ∷ [])
  field_unnumbered h = by (slice_get m.types n) refl (h ∙ at_type)
    where
      by : (o : Option NamedType) → slice_get m.types n ≡ o → None ≡ option_flatten (option_map (number_of i) o) → no_sum ≡ sum_of i m (f ∷ [])
      by None e g = field_none i m n k f (sym (ap (option_map name_of) e)) same
      by (Some t) e g = field_some i m n k t.name no_sum f (sym (ap (option_map name_of) e)) (no_fields i (typed_by i.fields t.name k) (λ s. unnamed i.fields t.name k s g)) same

-- where nothing is known

pub none_more : (xs : List (Option ℕ)) → ((n : ℕ) → known xs n ≡ None) → (n : ℕ) → known (xs ++ None ∷ []) n ≡ None
none_more [] h zero = refl
none_more [] h (suc n) = refl
none_more (x ∷ xs) h zero = h zero
none_more (x ∷ xs) h (suc n) = none_more xs (λ k. h (suc k)) n

pub none_at_first : (n : ℕ) → known [] n ≡ None
none_at_first n = refl

pub summed : (i : Interface) (m : Module) (classes : List ℕ) (typed : Table) (names : List (Option ℕ)) → IsClassed i classes → HasFields i typed → names ≡ map (λ t. number_among i.fields t.name) m.types → HasLawfulTypes m → IsSummed i m classes typed names
summed i m classes typed names c t s l = record { classes_are = c; typed_are = t; names_are = s; lawful = l }

-- the longest name so far
pub longest_more : (fields : List Field) (k : ℕ) (f : Field) (old new : ℕ) → ((j : ℕ) → (d : Field) → j < k → length (get_or fields j d).name ≤ old) → f ≡ get_or fields k f → k < length fields → new ≡ max old (length f.name) → (j : ℕ) → (d : Field) → j < k + 1 → length (get_or fields j d).name ≤ new
longest_more fields k f old new h e within is j d l = by (nat_lt j k) refl
  where
    is_less : nat_lt j k ≡ true → j < k
    is_less q = grind (arith, nat_tests, q)

    is_last : nat_lt j k ≡ false → k ≡ j
    is_last q = grind (arith, nat_tests, l, q)

    by : (b : Bool) → nat_lt j k ≡ b → length (get_or fields j d).name ≤ new
    by true q = let a : length (get_or fields j d).name ≤ old = h j d (is_less q) in omega (arith, a, is)
    by false q =
        let z : f ≡ get_or fields j d = e ∙ get_or_default fields k f d within ∙ ap (λ n. get_or fields n d) (is_last q) in
        let w : length f.name ≡ length (get_or fields j d).name = ap (λ (x : Field). length x.name) z in
        omega (arith, w, is)

pub are_short : (i : Interface) (fields : List Field) (k n : ℕ) → fields ≡ i.fields → length fields ≤ k → ((j : ℕ) → (d : Field) → j < k → length (get_or fields j d).name ≤ n) → AreShort i.fields n
unfolding AreShort
are_short i fields k n e l h = subst (λ fs. (j : ℕ) → (d : Field) → j < length fs → length (get_or fs j d).name ≤ n) e (λ j d m. h j d (omega (arith, m, l)))
