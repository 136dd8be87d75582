-- All principals in order, and the first of them that passes a test.
use Rattle.std.proofs.Common.{◌≡◌, ◌∙◌, ℕ, zero, suc, Bool, true, false, ◌&&◌, ◌||◌, nat_eq, nat_lt, Some, List, [], ◌∷◌, ◌++◌, map, inl, inr, refl, ap, sym, subst, arith, if◌then◌else◌}
use Rattle.std.specs.List.{find, flat_map, list_any}
use Rattle.std.proofs.lemmas.Bool.{both_ways, false_from_ne_true, or_cases, or_left, or_right}
use Rattle.std.proofs.lemmas.Bool.Decides.{nat_tests}
use Rattle.std.proofs.lemmas.Grind.{flat_map-append}
use Rattle.std.proofs.lemmas.List.Folds.{list_any-append}
use mathlib.Core.List.{append-nil}
use Rattle.lx_words.proofs.Tests.{or_false}
use Rattle.lx_words.proofs.Lists.{map_append}
use Rattle.lx_caps.specs.declared.Principal.{Principal}
use Rattle.lx_caps.specs.declared.Principal.TheVariants.{Kernel, Shared, Global, Inst}
use Rattle.lx_caps.specs.History.{same_principal}
use Rattle.lx_caps.specs.Names.{Namings, instance_count}
use Rattle.lx_caps.specs.Precedence.{precedes, IsFirstPrincipal}
use Rattle.lx_model.specs.State.{module_principals}
use Rattle.lx_slot_types.specs.Gets.{below}
use Rattle.lx_call_targets.specs.Writers.{is_known}
use Rattle.lx_caps.proofs.PrincipalOrder.{not_before_itself, precedes-trans, same_first}
use Rattle.lx_caps.proofs.Principals.{same_principal_is, same_principal_itself}

abbrev among : Principal → List Principal → Bool
among q qs = list_any (same_principal q) qs

-- each comes before all that stand behind it
abbrev AreInOrder : List Principal → Type 0
AreInOrder [] = Unit {0}
AreInOrder (q ∷ qs) = ((r : Principal) → among r qs ≡ true → precedes q r ≡ true) × AreInOrder qs

-- exactly those that pass, in order
pub record IsListing (passes : Principal → Bool) (qs : List Principal) : Type 0 where
  pub each : (q : Principal) → among q qs ≡ passes q
  pub ordered : AreInOrder qs

-- one alone
one : (q : Principal) → IsListing (λ r. same_principal r q) (q ∷ [])
one q = record { each = λ r. or_false (same_principal r q); ordered = (λ r is. absurd (cc), tt) }

join_order : (xs ys : List Principal) → AreInOrder xs → AreInOrder ys → ((q r : Principal) → among q xs ≡ true → among r ys ≡ true → precedes q r ≡ true) → AreInOrder (xs ++ ys)
join_order [] ys a b before = b
join_order (x ∷ xs) ys a b before = (
  λ r is. elim (or_cases (among r xs) (among r ys) (sym (list_any-append (same_principal r) xs ys) ∙ is)) [
    | inl here ↦ a.0 r here
    | inr there ↦ before x r (or_left (same_principal x x) (among x xs) (same_principal_itself x)) there
  ],
  join_order xs ys a.1 b (λ q r here there. before q r (or_right (same_principal q x) (among q xs) here) there),
)

-- one listing before another
joined : (p r all : Principal → Bool) (xs ys : List Principal) → IsListing p xs → IsListing r ys → ((x y : Principal) → p x ≡ true → r y ≡ true → precedes x y ≡ true)
    → ((q : Principal) → (p q || r q) ≡ all q) → IsListing all (xs ++ ys)
joined p r all xs ys a b before whole = record {
  each = λ q. list_any-append (same_principal q) xs ys ∙ ap (λ t. t || among q ys) (a.each q) ∙ ap (λ t. p q || t) (b.each q) ∙ whole q;
  ordered = join_order xs ys a.ordered b.ordered (λ x y here there. before x y (sym (a.each x) ∙ here) (sym (b.each y) ∙ there));
}

-- the first instances of a module

abbrev is_instance : ℕ → ℕ → Principal → Bool
is_instance m n (Inst a k) = nat_eq a m && nat_lt k n
is_instance m n _ = false

instances_before : (m n : ℕ) (x y : Principal) → is_instance m n x ≡ true → same_principal y (Inst m n) ≡ true → precedes x y ≡ true
instances_before m n (Inst a k) (Inst b l) is same = grind (arith, nat_tests, is, same)
instances_before m n (Inst a k) Kernel is same = absurd (cc)
instances_before m n (Inst a k) (Shared b) is same = absurd (cc)
instances_before m n (Inst a k) (Global b) is same = absurd (cc)
instances_before m n Kernel y is same = absurd (cc)
instances_before m n (Shared a) y is same = absurd (cc)
instances_before m n (Global a) y is same = absurd (cc)

one_instance_more : (m n : ℕ) (q : Principal) → (is_instance m n q || same_principal q (Inst m n)) ≡ is_instance m (suc n) q
one_instance_more m n (Inst a k) = grind (arith, nat_tests)
one_instance_more m n Kernel = refl
one_instance_more m n (Shared a) = refl
one_instance_more m n (Global a) = refl

no_instance : (m : ℕ) (q : Principal) → false ≡ is_instance m 0 q
no_instance m (Inst a k) = grind (arith, nat_tests)
no_instance m Kernel = refl
no_instance m (Shared a) = refl
no_instance m (Global a) = refl

instances : (m n : ℕ) → IsListing (is_instance m n) (map (Inst m) (below n))
instances m zero = record { each = no_instance m; ordered = tt }
instances m (suc n) =
    subst (IsListing (is_instance m (suc n))) (sym (map_append (Inst m) (below n) (n ∷ [])))
    (joined (is_instance m n) (λ q. same_principal q (Inst m n)) (is_instance m (suc n)) (map (Inst m) (below n)) (Inst m n ∷ [])
    (instances m n) (one (Inst m n)) (instances_before m n) (one_instance_more m n))

-- the principals of a module

abbrev is_global : ℕ → ℕ → Principal → Bool
is_global m n q = same_principal q (Global m) || is_instance m n q

abbrev is_of_module : ℕ → ℕ → Principal → Bool
is_of_module m n q = same_principal q (Shared m) || is_global m n q

global_before : (m n : ℕ) (x y : Principal) → same_principal x (Global m) ≡ true → is_instance m n y ≡ true → precedes x y ≡ true
global_before m n (Global a) (Inst b k) same is = grind (arith, nat_tests, same, is)
global_before m n (Global a) Kernel same is = absurd (cc)
global_before m n (Global a) (Shared b) same is = absurd (cc)
global_before m n (Global a) (Global b) same is = absurd (cc)
global_before m n Kernel y same is = absurd (cc)
global_before m n (Shared a) y same is = absurd (cc)
global_before m n (Inst a k) y same is = absurd (cc)

shared_before : (m n : ℕ) (x y : Principal) → same_principal x (Shared m) ≡ true → is_global m n y ≡ true → precedes x y ≡ true
shared_before m n (Shared a) (Inst b k) same is = grind (arith, nat_tests, same, is)
shared_before m n (Shared a) (Global b) same is = grind (arith, nat_tests, same, is)
shared_before m n (Shared a) Kernel same is = absurd (cc)
shared_before m n (Shared a) (Shared b) same is = absurd (cc)
shared_before m n Kernel y same is = absurd (cc)
shared_before m n (Global a) y same is = absurd (cc)
shared_before m n (Inst a k) y same is = absurd (cc)

of_module : (names : Namings) (m : ℕ) → IsListing (is_of_module m (instance_count names m)) (module_principals names m)
of_module names m =
    let n = instance_count names m in
    joined (λ q. same_principal q (Shared m)) (is_global m n) (is_of_module m n) (Shared m ∷ []) (Global m ∷ map (Inst m) (below n)) (one (Shared m))
    (joined (λ q. same_principal q (Global m)) (is_instance m n) (is_global m n) (Global m ∷ []) (map (Inst m) (below n)) (one (Global m)) (instances m n) (global_before m n) (λ q. refl))
    (shared_before m n) (λ q. refl)

-- those of the first modules

modules_before : (names : Namings) (n : ℕ) (x y : Principal) → is_known n names x ≡ true → is_of_module n (instance_count names n) y ≡ true → precedes x y ≡ true
modules_before names n Kernel y is of = absurd (cc)
modules_before names n (Shared a) Kernel is of = absurd (cc)
modules_before names n (Shared a) (Shared b) is of = grind (arith, nat_tests, is, of)
modules_before names n (Shared a) (Global b) is of = grind (arith, nat_tests, is, of)
modules_before names n (Shared a) (Inst b k) is of = grind (arith, nat_tests, is, of)
modules_before names n (Global a) Kernel is of = absurd (cc)
modules_before names n (Global a) (Shared b) is of = grind (arith, nat_tests, is, of)
modules_before names n (Global a) (Global b) is of = grind (arith, nat_tests, is, of)
modules_before names n (Global a) (Inst b k) is of = grind (arith, nat_tests, is, of)
modules_before names n (Inst a j) Kernel is of = absurd (cc)
modules_before names n (Inst a j) (Shared b) is of = grind (arith, nat_tests, is, of)
modules_before names n (Inst a j) (Global b) is of = grind (arith, nat_tests, is, of)
modules_before names n (Inst a j) (Inst b k) is of = grind (arith, nat_tests, is, of)

eq_or_less : (a n : ℕ) → (nat_lt a n || nat_eq a n) ≡ nat_lt a (suc n)
eq_or_less a n = grind (arith, nat_tests)

-- an instance of an older module, or of this one
instance_more : (a n k c d : ℕ) (e : Bool) → nat_eq a n ≡ e → (a ≡ n → c ≡ d) → ((nat_lt a n && nat_lt k c) || (e && nat_lt k d)) ≡ (nat_lt a (suc n) && nat_lt k c)
instance_more a n k c d true same count = let i : a ≡ n = grind (arith, nat_tests, same) in let j = count i in grind (arith, nat_tests, same, j)
instance_more a n k c d false other count = grind (arith, nat_tests, other)

one_module_more : (names : Namings) (n : ℕ) (q : Principal) → (is_known n names q || is_of_module n (instance_count names n) q) ≡ is_known (suc n) names q
one_module_more names n Kernel = refl
one_module_more names n (Shared a) = ap (λ t. nat_lt a n || t) (or_false (nat_eq a n)) ∙ eq_or_less a n
one_module_more names n (Global a) = ap (λ t. nat_lt a n || t) (or_false (nat_eq a n)) ∙ eq_or_less a n
one_module_more names n (Inst a k) = instance_more a n k (instance_count names a) (instance_count names n) (nat_eq a n) refl (λ e. ap (instance_count names) e)

none_known : (names : Namings) (q : Principal) → false ≡ is_known 0 names q
none_known names Kernel = refl
none_known names (Shared a) = grind (arith, nat_tests)
none_known names (Global a) = grind (arith, nat_tests)
none_known names (Inst a k) = grind (arith, nat_tests)

-- all that there are
pub known_listed : (names : Namings) (n : ℕ) → IsListing (is_known n names) (flat_map (module_principals names) (below n))
known_listed names zero = record { each = none_known names; ordered = tt }
known_listed names (suc n) =
    subst (IsListing (is_known (suc n) names))
    (sym (flat_map-append (module_principals names) (below n) (n ∷ []) ∙ ap (λ xs. flat_map (module_principals names) (below n) ++ xs) (append-nil (module_principals names n))))
    (joined (is_known n names) (is_of_module n (instance_count names n)) (is_known (suc n) names) (flat_map (module_principals names) (below n)) (module_principals names n)
    (known_listed names n) (of_module names n) (modules_before names n) (one_module_more names n))

-- the first that passes

-- what comes before the first one of a list is not in the list
none_before : (x : Principal) (xs : List Principal) (q : Principal) → AreInOrder (x ∷ xs) → precedes q x ≡ true → among q (x ∷ xs) ≡ false
none_before x xs q ordered before =
    false_from_ne_true (among q (x ∷ xs))
    (λ is. elim (or_cases (same_principal q x) (among q xs) is) [
      | inl same ↦ both_ways (precedes q x) (subst (λ r. precedes r x ≡ false) (sym (same_principal_is q x same)) (not_before_itself x)) before
      | inr behind ↦ both_ways (precedes q q) (not_before_itself q) (precedes-trans q x q before (ordered.0 q behind))
    ])

passed_over : (s a t : Bool) → (s ≡ true → t ≡ false) → (a && t) ≡ ((s || a) && t)
passed_over false a t fails = refl
passed_over true a t fails = ap (λ b. a && b) (fails refl) ∙ and_false a ∙ sym (fails refl)
  where
    and_false : (b : Bool) → (b && false) ≡ false
    and_false true = refl
    and_false false = refl

pub first_in_order : (p : Principal → Bool) (qs : List Principal) → AreInOrder qs → IsFirstPrincipal (λ q. among q qs && p q) (find p qs)
first_in_order p [] ordered = λ q. refl
first_in_order p (x ∷ xs) ordered =
    (elim (p x) as (λ t. p x ≡ t → IsFirstPrincipal (λ q. among q (x ∷ xs) && p q) (if t then Some x else find p xs)) [
      | true ↦ λ is. (
        ap (λ t. t && p x) (or_left (same_principal x x) (among x xs) (same_principal_itself x)) ∙ is,
        λ q before. ap (λ t. t && p q) (none_before x xs q ordered before),
      )
      | false ↦ λ is. same_first (λ q. among q xs && p q) (λ q. among q (x ∷ xs) && p q)
          (λ q. passed_over (same_principal q x) (among q xs) (p q) (λ same. subst (λ r. p r ≡ false) (sym (same_principal_is q x same)) is))
          (find p xs) (first_in_order p xs ordered.1)
    ]) refl
