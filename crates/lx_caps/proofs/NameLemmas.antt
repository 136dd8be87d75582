-- Names, in the words of the newest and the oldest act.
use Rattle.std.proofs.Common.{◌≡◌, ◌↔◌, ◌⊎◌, ◌∙◌, inl, inr, refl, sym, ap, subst, ℕ, suc, ◌<◌, ◌≤◌, Bool, true, false, ◌||◌, ◌&&◌, nat_eq, IsTrue, Option, Some, None, [], ◌∷◌, ◌++◌, if◌then◌else◌, arith}
use Rattle.std.specs.List.{list_any}
use Rattle.std.proofs.lemmas.Bool.{or_cases, or_left, or_right, cases_Bool, cases_eq, and_from, eq-eqb, eqb-true, eqb-false, cond-true, cond-false, cond_both}
use Rattle.lx_caps.specs.declared.Naming.{Naming}
use Rattle.lx_caps.specs.Names.{Namings, named, older, instance_count, first_name, new_instance}
use Rattle.lx_caps.specs.NameLaws.{gives_name, names_instance, NonePasses, IsNewest, IsOldest, IsNumbered}

-- the first act from the newest on that passes
abbrev newest : (Naming → Bool) → (Naming → ℕ) → Namings → Option ℕ
newest p f [] = None
newest p f (act ∷ acts) = if p act then Some (f act) else newest p f acts

newest-here : (p : Naming → Bool) (f : Naming → ℕ) (act : Naming) (acts : Namings) → p act ≡ true → newest p f (act ∷ acts) ≡ Some (f act)
newest-here p f act acts is = cond-true (p act) (Some (f act)) (newest p f acts) is

newest-behind : (p : Naming → Bool) (f : Naming → ℕ) (act : Naming) (acts : Namings) → p act ≡ false → newest p f (act ∷ acts) ≡ newest p f acts
newest-behind p f act acts is = cond-false (p act) (Some (f act)) (newest p f acts) is

newest-none : (p : Naming → Bool) (f : Naming → ℕ) (acts : Namings) → newest p f acts ≡ None → NonePasses p acts
newest-none p f [] is = tt
newest-none p f (act ∷ acts) is =
    elim (cases_Bool (p act)) [
      | inl here ↦ absurd (let e : Some (f act) ≡ None = sym (newest-here p f act acts here) ∙ is in cc)
      | inr out ↦ (out, newest-none p f acts (sym (newest-behind p f act acts out) ∙ is))
    ]

none-newest : (p : Naming → Bool) (f : Naming → ℕ) (acts : Namings) → NonePasses p acts → newest p f acts ≡ None
none-newest p f [] none = refl
none-newest p f (act ∷ acts) none = newest-behind p f act acts none.0 ∙ none-newest p f acts none.1

newest-some : (p : Naming → Bool) (f : Naming → ℕ) (acts : Namings) (k : ℕ) → newest p f acts ≡ Some k → (act : Naming) × (f act ≡ k) × IsNewest p acts act
newest-some p f [] k is = absurd cc
newest-some p f (act ∷ acts) k is =
    elim (cases_Bool (p act)) [
      | inl here ↦
          (let e : Some (f act) ≡ Some k = sym (newest-here p f act acts here) ∙ is in
          (act, cc, record { newer = []; older = acts; stands = refl; passes = here; alone = tt }))
      | inr out ↦
          (let (found, is_it, w) = newest-some p f acts k (sym (newest-behind p f act acts out) ∙ is) in (
            found,
            is_it,
            record {
              newer = act ∷ w.newer;
              older = w.older;
              stands = ap (λ (l : Namings). act ∷ l) w.stands;
              passes = w.passes;
              alone = (out, w.alone);
            },
          ))
    ]

newest-split : (p : Naming → Bool) (f : Naming → ℕ) (newer acts : Namings) (act : Naming) → p act ≡ true → NonePasses p newer → newest p f (newer ++ act ∷ acts) ≡ Some (f act)
newest-split p f [] acts act passes alone = newest-here p f act acts passes
newest-split p f (first ∷ newer) acts act passes alone =
    newest-behind p f first (newer ++ act ∷ acts) alone.0 ∙ newest-split p f newer acts act passes alone.1

some-newest : (p : Naming → Bool) (f : Naming → ℕ) (acts : Namings) (k : ℕ) → ((act : Naming) × (f act ≡ k) × IsNewest p acts act) → newest p f acts ≡ Some k
some-newest p f acts k (act, is, w) =
    ap (λ (l : Namings). newest p f l) w.stands ∙ newest-split p f w.newer w.older act w.passes w.alone ∙ ap Some is

named-newest : (acts : Namings) (m v : ℕ) → named acts m v ≡ newest (gives_name m v) (λ act. act.instance) acts
named-newest [] m v = refl
named-newest (act ∷ acts) m v =
    ap (λ (o : Option ℕ). if gives_name m v act then Some act.instance else o) (named-newest acts m v)

pub named_by : (acts : Namings) (m v k : ℕ) → (named acts m v ≡ Some k) ↔ ((act : Naming) × (act.instance ≡ k) × IsNewest (gives_name m v) acts act)
named_by acts m v k = (
  (λ is. newest-some (gives_name m v) (λ act. act.instance) acts k (sym (named-newest acts m v) ∙ is)),
  (λ w. named-newest acts m v ∙ some-newest (gives_name m v) (λ act. act.instance) acts k w),
)

pub unnamed : (acts : Namings) (m v : ℕ) → (named acts m v ≡ None) ↔ NonePasses (gives_name m v) acts
unnamed acts m v = (
  (λ is. newest-none (gives_name m v) (λ act. act.instance) acts (sym (named-newest acts m v) ∙ is)),
  (λ none. named-newest acts m v ∙ none-newest (gives_name m v) (λ act. act.instance) acts none),
)

-- the value of the act, if it is the instance's
abbrev own_name : ℕ → ℕ → Naming → Option ℕ
own_name m k act = if names_instance m k act then Some act.value else None

first_none : (acts : Namings) (m k : ℕ) → NonePasses (names_instance m k) acts → first_name acts m k ≡ None
first_none [] m k none = refl
first_none (act ∷ acts) m k none =
    ap (λ (o : Option ℕ). older o (own_name m k act)) (first_none acts m k none.1) ∙ cond-false (names_instance m k act) (Some act.value) None none.0

older-none : (a b : Option ℕ) → older a b ≡ None → (a ≡ None) × (b ≡ None)
older-none None b is = (refl, is)
older-none (Some v) b is = absurd cc

none_first : (acts : Namings) (m k : ℕ) → first_name acts m k ≡ None → NonePasses (names_instance m k) acts
none_first [] m k is = tt
none_first (act ∷ acts) m k is =
    let i = older-none (first_name acts m k) (own_name m k act) is in
    elim (cases_Bool (names_instance m k act)) [
      | inl here ↦ absurd (let e : Some act.value ≡ None = sym (cond-true (names_instance m k act) (Some act.value) None here) ∙ i.1 in cc)
      | inr out ↦ (out, none_first acts m k i.0)
    ]

older-some : (a b : Option ℕ) (v : ℕ) → older a b ≡ Some v → (a ≡ Some v) ⊎ ((a ≡ None) × (b ≡ Some v))
older-some None b v is = inr (refl, is)
older-some (Some u) b v is = inl is

first_some : (acts : Namings) (m k v : ℕ) → first_name acts m k ≡ Some v → (act : Naming) × (act.value ≡ v) × IsOldest (names_instance m k) acts act
first_some [] m k v is = absurd cc
first_some (act ∷ acts) m k v is =
    elim (older-some (first_name acts m k) (own_name m k act) v is) [
      | inl behind ↦
          (let (found, is_it, w) = first_some acts m k v behind in (
            found,
            is_it,
            record {
              newer = act ∷ w.newer;
              older = w.older;
              stands = ap (λ (l : Namings). act ∷ l) w.stands;
              passes = w.passes;
              alone = w.alone;
            },
          ))
      | inr now ↦ elim (cases_Bool (names_instance m k act)) [
        | inl here ↦
            (let e : Some act.value ≡ Some v = sym (cond-true (names_instance m k act) (Some act.value) None here) ∙ now.1 in
            (act, cc, record { newer = []; older = acts; stands = refl; passes = here; alone = none_first acts m k now.0 }))
        | inr out ↦ absurd (let e : None ≡ Some v = sym (cond-false (names_instance m k act) (Some act.value) None out) ∙ now.1 in cc)
      ]
    ]

first-split : (newer acts : Namings) (act : Naming) (m k : ℕ) → names_instance m k act ≡ true → NonePasses (names_instance m k) acts → first_name (newer ++ act ∷ acts) m k ≡ Some act.value
first-split [] acts act m k passes alone =
    ap (λ (o : Option ℕ). older o (own_name m k act)) (first_none acts m k alone) ∙ cond-true (names_instance m k act) (Some act.value) None passes
first-split (newest ∷ newer) acts act m k passes alone =
    ap (λ (o : Option ℕ). older o (own_name m k newest)) (first-split newer acts act m k passes alone)

pub first : (acts : Namings) (m k v : ℕ) → (first_name acts m k ≡ Some v) ↔ ((act : Naming) × (act.value ≡ v) × IsOldest (names_instance m k) acts act)
first acts m k v = (
  first_some acts m k v,
  λ (act, is, w). ap (λ (l : Namings). first_name l m k) w.stands ∙ first-split w.newer w.older act m k w.passes w.alone ∙ ap Some is,
)

pub no_first : (acts : Namings) (m k : ℕ) → (first_name acts m k ≡ None) ↔ NonePasses (names_instance m k) acts
no_first acts m k = (none_first acts m k, first_none acts m k)

pub one_more : (acts : Namings) (m v : ℕ) → instance_count (new_instance acts m v ∷ acts) m ≡ suc (instance_count acts m)
one_more acts m v =
    cond-true (nat_eq m m && nat_eq (instance_count acts m) (instance_count acts m)) (suc (instance_count acts m)) (instance_count acts m)
    (and_from (nat_eq m m) (nat_eq (instance_count acts m) (instance_count acts m)) (eq-eqb m m refl) (eq-eqb (instance_count acts m) (instance_count acts m) refl))

-- one more number below a count
count_step : (i n k : ℕ) (any : Bool) → i ≤ n → ((any ≡ true) ↔ (k < n)) → ((nat_eq i k || any) ≡ true) ↔ (k < (if nat_eq i n then suc n else n))
count_step i n k any most same =
    cond_both (nat_eq i n) (suc n) n (λ (c : ℕ). ((nat_eq i k || any) ≡ true) ↔ (k < c))
    (λ next. (
      (λ is. elim (or_cases (nat_eq i k) any is) [
        | inl here ↦ omega (arith, eqb-true i k here, eqb-true i n next)
        | inr there ↦ omega (arith, same.0 there)
      ]),
      (λ below. elim (cases_eq i k) [
        | inl here ↦ or_left (nat_eq i k) any (eq-eqb i k here)
        | inr other ↦ or_right (nat_eq i k) any (same.1 (let e = eqb-true i n next in omega arith))
      ]),
    ))
    (λ old. (
      (λ is. elim (or_cases (nat_eq i k) any is) [
        | inl here ↦ (let e = eqb-true i k here in let ne = eqb-false i n old in let less : i < n = omega arith in omega arith)
        | inr there ↦ same.0 there
      ]),
      (λ below. or_right (nat_eq i k) any (same.1 below)),
    ))

module_step : (b : Bool) (i n k : ℕ) (any : Bool) → (b ≡ true → i ≤ n) → ((any ≡ true) ↔ (k < n))
    → (((b && nat_eq i k) || any) ≡ true) ↔ (k < (if b && nat_eq i n then suc n else n))
module_step true i n k any most same = count_step i n k any (most refl) same
module_step false i n k any most same = same

pub counted : (acts : Namings) (m k : ℕ) → IsNumbered acts → IsTrue (list_any (names_instance m k) acts) ↔ (k < instance_count acts m)
counted [] m k is = ((λ none. absurd cc), (λ below. absurd (omega arith)))
counted (act ∷ acts) m k is =
    module_step (nat_eq act.module m) act.instance (instance_count acts m) k (list_any (names_instance m k) acts)
    (λ same. subst (λ (n : ℕ). act.instance ≤ instance_count acts n) (eqb-true act.module m same) is.0)
    (counted acts m k is.1)
