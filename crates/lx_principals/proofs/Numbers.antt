-- The numbers and the first names of instances, from one act to the next.
use Rattle.std.proofs.Common.{◌≡◌, ◌≢◌, ◌∙◌, inl, inr, refl, sym, ap, subst, ℕ, suc, ◌<◌, ◌≤◌, Bool, true, false, ◌&&◌, nat_eq, cond, Option, Some, None, List, [], ◌∷◌, ◌++◌, length, if◌then◌else◌, arith}
use Rattle.std.specs.Prelude.{slice_set, slice_index, is_some, IfSome, IsOk, OnOk, Result, Ok, Err}
use Rattle.std.specs.List.{IsDistinct}
use Rattle.std.specs.Map.{keys_of, lookup}
use Rattle.std.proofs.lemmas.Bool.{cases_Bool, cases_eq, eq-eqb, cond-true, cond-false, eqb-true, and_parts, and_from}
use Rattle.std.proofs.lemmas.Bool.Decides.{nat_tests}
use Rattle.std.proofs.lemmas.List.{length-set, get_or-set_same, get_or-set_other}
use Rattle.lx_caps.specs.declared.Naming.{Naming}
use Rattle.lx_caps.specs.Names.{Namings, named, instance_count, first_name, older}
use Rattle.lx_caps.specs.NameLaws.{IsNumbered}
use Rattle.lx_principals.specs.Kept.{Entry, same_pair, naming, namings, IsKept}
use Rattle.lx_principals.proofs.Tables.{namings_more}
use Rattle.lx_caps.proofs.Tests.{counts_up}

-- one act more takes no instance away
count_grows : (act : Naming) (acts : Namings) (m : ℕ) → instance_count acts m ≤ instance_count (act ∷ acts) m
count_grows act acts m = counts_up (nat_eq act.«module» m && nat_eq act.instance (instance_count acts m)) (instance_count acts m)

-- a name's instance is one of the module's
pub found_below : (acts : Namings) (m v k : ℕ) → IsNumbered acts → named acts m v ≡ Some k → k < instance_count acts m
found_below [] m v k numbered is = absurd cc
found_below (act ∷ acts) m v k numbered is =
    elim (cases_Bool (nat_eq act.«module» m && nat_eq act.value v)) [
      | inl here ↦
          (let same : Some act.instance ≡ Some k = sym (cond-true (nat_eq act.«module» m && nat_eq act.value v) (Some act.instance) (named acts m v) here) ∙ is in
          let number : act.instance ≡ k = cc in
          let home = eqb-true act.«module» m (and_parts (nat_eq act.«module» m) (nat_eq act.value v) here).0 in
          let most : k ≤ instance_count acts m = subst (λ (i : ℕ). i ≤ instance_count acts m) number (subst (λ (h : ℕ). act.instance ≤ instance_count acts h) home numbered.0) in
          made_or_there act acts m k number home most)
      | inr out ↦
          (let behind : named acts m v ≡ Some k = sym (cond-false (nat_eq act.«module» m && nat_eq act.value v) (Some act.instance) (named acts m v) out) ∙ is in
          omega (arith, found_below acts m v k numbered.1 behind, count_grows act acts m))
    ]
  where
    made_or_there : (act : Naming) (acts : Namings) (m k : ℕ) → act.instance ≡ k → act.«module» ≡ m → k ≤ instance_count acts m → k < instance_count (act ∷ acts) m
    made_or_there act acts m k number home most =
        elim (cases_eq k (instance_count acts m)) [
          | inl next ↦
              (let test = and_from (nat_eq act.«module» m) (nat_eq act.instance (instance_count acts m)) (eq-eqb _ _ home) (eq-eqb _ _ (number ∙ next)) in
              let more = cond-true (nat_eq act.«module» m && nat_eq act.instance (instance_count acts m)) (suc (instance_count acts m)) (instance_count acts m) test in
              omega (arith, more, next))
          | inr other ↦ omega (arith, other, most, count_grows act acts m)
        ]

no_name : (i j k n : ℕ) (o : Option ℕ) (v : ℕ) → o ≡ None → (nat_eq i j && nat_eq k n) ≡ false → older o (if nat_eq i j && nat_eq k n then Some v else None) ≡ None
no_name i j k n o v none out = rw (none, out) refl

-- an instance that the module does not have yet has no first name
pub no_first : (acts : Namings) (m k : ℕ) → IsNumbered acts → instance_count acts m ≤ k → first_name acts m k ≡ None
no_first [] m k numbered past = refl
no_first (act ∷ acts) m k numbered past =
    let grows = count_grows act acts m in
    no_name act.«module» m act.instance k (first_name acts m k) act.value (no_first acts m k numbered.1 (omega arith)) (other act acts m k numbered.0 past)
  where
    other : (act : Naming) (acts : Namings) (m k : ℕ) → act.instance ≤ instance_count acts act.«module» → instance_count (act ∷ acts) m ≤ k → (nat_eq act.«module» m && nat_eq act.instance k) ≡ false
    other act acts m k most past =
        elim (cases_Bool (nat_eq act.«module» m && nat_eq act.instance k)) [
          | inr out ↦ out
          | inl here ↦
              (let parts = and_parts (nat_eq act.«module» m) (nat_eq act.instance k) here in
              let home = eqb-true act.«module» m parts.0 in
              let number = eqb-true act.instance k parts.1 in
              let at_most : k ≤ instance_count acts m = subst (λ (i : ℕ). i ≤ instance_count acts m) number (subst (λ (h : ℕ). act.instance ≤ instance_count acts h) home most) in
              let grows = count_grows act acts m in
              let next : act.instance ≡ instance_count acts m = omega (arith, number, at_most, grows, past) in
              let test = and_from (nat_eq act.«module» m) (nat_eq act.instance (instance_count acts m)) parts.0 (eq-eqb _ _ next) in
              let more = cond-true (nat_eq act.«module» m && nat_eq act.instance (instance_count acts m)) (suc (instance_count acts m)) (instance_count acts m) test in
              absurd (omega (arith, more, past, at_most)))
        ]

some_older : (o p : Option ℕ) → is_some o ≡ true → is_some (older o p) ≡ true
some_older (Some v) p is = refl
some_older None p is = absurd cc

some_newer : (o p : Option ℕ) → is_some p ≡ true → is_some (older o p) ≡ true
some_newer (Some v) p is = refl
some_newer None p is = is

-- each instance that the module has has a first name
pub has_first : (acts : Namings) (m k : ℕ) → k < instance_count acts m → is_some (first_name acts m k) ≡ true
has_first [] m k below = absurd (omega arith)
has_first (act ∷ acts) m k below =
    elim (cases_Bool (nat_eq act.«module» m && nat_eq act.instance (instance_count acts m))) [
      | inr out ↦
          (let same = cond-false (nat_eq act.«module» m && nat_eq act.instance (instance_count acts m)) (suc (instance_count acts m)) (instance_count acts m) out in
          some_older (first_name acts m k) _ (has_first acts m k (omega (arith, same, below))))
      | inl here ↦
          (let more = cond-true (nat_eq act.«module» m && nat_eq act.instance (instance_count acts m)) (suc (instance_count acts m)) (instance_count acts m) here in
          elim (cases_eq k (instance_count acts m)) [
            | inr other ↦ some_older (first_name acts m k) _ (has_first acts m k (omega (arith, more, below, other)))
            | inl next ↦
                (let parts = and_parts (nat_eq act.«module» m) (nat_eq act.instance (instance_count acts m)) here in
                let number = eqb-true act.instance (instance_count acts m) parts.1 in
                let test = and_from (nat_eq act.«module» m) (nat_eq act.instance k) parts.0 (eq-eqb act.instance k (number ∙ sym next)) in
                some_newer (first_name acts m k) _ (ap is_some (cond-true (nat_eq act.«module» m && nat_eq act.instance k) (Some act.value) None test)))
          ])
    ]

older_kept : (o p : Option ℕ) → is_some o ≡ true → older o p ≡ o
older_kept (Some v) p is = refl
older_kept None p is = absurd cc

older_none : (o : Option ℕ) → older o None ≡ o
older_none (Some v) = refl
older_none None = refl

-- the counts with one more instance of a module
counted_more : (act : Naming) (acts : Namings) (counts : List ℕ) (n : ℕ) → act.instance ≡ instance_count acts act.«module» → act.«module» < length counts
    → (n < length counts → slice_index counts n ≡ instance_count acts n) → n < length counts
    → slice_index (slice_set counts act.«module» (suc act.instance)) n ≡ instance_count (act ∷ acts) n
counted_more act acts counts n next there are within =
    elim (cases_eq n act.«module») [
      | inl same ↦
          (let test = and_from (nat_eq act.«module» n) (nat_eq act.instance (instance_count acts n)) (eq-eqb _ _ (sym same)) (eq-eqb _ _ (next ∙ ap (instance_count acts) (sym same))) in
          let more = cond-true (nat_eq act.«module» n && nat_eq act.instance (instance_count acts n)) (suc (instance_count acts n)) (instance_count acts n) test in
          ap (λ (k : ℕ). slice_index (slice_set counts act.«module» (suc act.instance)) k) same
          ∙ get_or-set_same counts act.«module» (suc act.instance) 0 there
          ∙ ap suc (next ∙ ap (instance_count acts) (sym same))
          ∙ sym more)
      | inr other ↦
          (let less = cond-false (nat_eq act.«module» n && nat_eq act.instance (instance_count acts n)) (suc (instance_count acts n)) (instance_count acts n) (apart act.«module» n _ _ other) in
          get_or-set_other counts act.«module» n (suc act.instance) 0 other ∙ are within ∙ sym less)
    ]
  where
    apart : (i j k l : ℕ) → j ≢ i → (nat_eq i j && nat_eq k l) ≡ false
    apart i j k l other = grind (arith, nat_tests, other)

first_by : (b : Bool) (v : ℕ) (o : Option ℕ) → (b ≡ true → o ≡ None) → cond b (Some v) o ≡ older o (if b then Some v else None)
first_by true v o none = rw (none refl) refl
first_by false v o none = sym (older_none o)

-- a new instance is kept
pub made : (names new_names firsts new_firsts : List Entry) (counts new_counts : List ℕ) (m v k : ℕ) → IsKept names firsts counts → m < length counts → k ≡ instance_count (namings names) m
    → new_names ≡ names ++ ((m, v), k) ∷ [] → IsDistinct same_pair (keys_of new_names)
    → ((q : ℕ × ℕ) → lookup (same_pair q) new_firsts ≡ cond (same_pair (m, k) q) (Some v) (lookup (same_pair q) firsts))
    → new_counts ≡ slice_set counts m (suc k) → IsKept new_names new_firsts new_counts
made names new_names firsts new_firsts counts new_counts m v k kept there next put distinct firsts_put counts_put =
    let acts = ap namings put ∙ namings_more names ((m, v), k) in
    let act = naming ((m, v), k) in record {
      few = (let lengths = ap length counts_put ∙ length-set counts m (suc k) in omega (arith, lengths, kept.few));
      distinct = distinct;
      numbered = subst IsNumbered (sym acts) (omega (arith, next), kept.numbered);
      counted = λ n within.
          (let lengths = ap length counts_put ∙ length-set counts m (suc k) in
          ap (λ (l : List ℕ). slice_index l n) counts_put
          ∙ counted_more act (namings names) counts n next there (kept.counted n) (omega (arith, lengths, within))
          ∙ ap (λ (l : Namings). instance_count l n) (sym acts));
      first = λ n j.
          firsts_put (n, j)
          ∙ ap (cond (same_pair (m, k) (n, j)) (Some v)) (kept.first n j)
          ∙ first_by (same_pair (m, k) (n, j)) v (first_name (namings names) n j) (λ same.
          let parts = and_parts (nat_eq m n) (nat_eq k j) same in
          let home = eqb-true m n parts.0 in
          let number = eqb-true k j parts.1 in
          let count = ap (instance_count (namings names)) home in
          no_first (namings names) n j kept.numbered (omega (arith, number, next, count)))
          ∙ ap (λ (l : Namings). first_name l n j) (sym acts);
    }

further_by : (b : Bool) (v : ℕ) (o : Option ℕ) → (b ≡ true → is_some o ≡ true) → o ≡ older o (if b then Some v else None)
further_by true v o some = sym (older_kept o (Some v) (some refl))
further_by false v o some = sym (older_none o)

-- a further name is kept
pub named_further : (names new_names firsts : List Entry) (counts : List ℕ) (m v k : ℕ) → IsKept names firsts counts → k < instance_count (namings names) m
    → new_names ≡ names ++ ((m, v), k) ∷ [] → IsDistinct same_pair (keys_of new_names) → IsKept new_names firsts counts
named_further names new_names firsts counts m v k kept there put distinct =
    let acts = ap namings put ∙ namings_more names ((m, v), k) in record {
      few = kept.few;
      distinct = distinct;
      numbered = subst IsNumbered (sym acts) (omega (arith, there), kept.numbered);
      counted = λ n within.
          kept.counted n within
          ∙ sym (cond-false (nat_eq m n && nat_eq k (instance_count (namings names) n)) (suc (instance_count (namings names) n)) (instance_count (namings names) n) (not_next n))
          ∙ ap (λ (l : Namings). instance_count l n) (sym acts);
      first = λ n j.
          kept.first n j
          ∙ further_by (nat_eq m n && nat_eq k j) v (first_name (namings names) n j) (λ same.
          let parts = and_parts (nat_eq m n) (nat_eq k j) same in
          let home = eqb-true m n parts.0 in
          let number = eqb-true k j parts.1 in
          let count = ap (instance_count (namings names)) home in
          has_first (namings names) n j (omega (arith, number, there, count)))
          ∙ ap (λ (l : Namings). first_name l n j) (sym acts);
    }
  where
    not_next : (n : ℕ) → (nat_eq m n && nat_eq k (instance_count (namings names) n)) ≡ false
    not_next n =
        elim (cases_Bool (nat_eq m n && nat_eq k (instance_count (namings names) n))) [
          | inr out ↦ out
          | inl here ↦
              (let parts = and_parts (nat_eq m n) (nat_eq k (instance_count (namings names) n)) here in
              let home = eqb-true m n parts.0 in
              let number = eqb-true k (instance_count (namings names) n) parts.1 in
              let count = ap (instance_count (namings names)) home in
              absurd (omega (arith, number, count, there)))
        ]

-- what is found is the number of one of the module's instances
pub found_one : (acts : Namings) (m v : ℕ) (found : Option ℕ) → IsNumbered acts → found ≡ named acts m v → IfSome found (λ k. k < instance_count acts m)
found_one acts m v None numbered is = tt
found_one acts m v (Some k) numbered is = found_below acts m v k numbered (sym is)

-- what holds where an answer is Ok
pub ok_part : {T E : Type 0} {P : Type 0} (r : Result T E) → IsOk r → OnOk r P → P
ok_part (Ok x) is p = p
ok_part (Err e) is p = absurd cc
