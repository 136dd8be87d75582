-- A principal that is there is listed, and what a history gives is given to such principals.
use Rattle.std.proofs.Common.{◌≡◌, ℕ, zero, suc, ◌+◌, ◌<◌, Bool, true, false, ◌&&◌, ◌||◌, nat_eq, nat_lt, List, [], ◌∷◌, map, inl, inr, refl, sym, subst, ◌∙◌, length, arith, if◌then◌else◌}
use Rattle.std.specs.List.{flat_map, list_all, list_any}
use Rattle.std.proofs.lemmas.Bool.{and_from, and_parts, cases_eq, eq-eqb, eqb-true, or_cases, or_left, or_right}
use Rattle.std.proofs.lemmas.Bool.Decides.{nat_tests}
use Rattle.std.proofs.lemmas.List.Folds.{list_any-append}
use Rattle.lx_words.proofs.Tests.{same_tests, or_false}
use Rattle.lx_caps.specs.declared.Atom.{Atom}
use Rattle.lx_caps.specs.declared.Atom.TheVariants.{Byte}
use Rattle.lx_caps.specs.declared.Act.{Act}
use Rattle.lx_caps.specs.declared.Act.TheVariants.{Grant, Strip, Zero, Loan, Lend, Shut, ShutAll}
use Rattle.lx_caps.specs.declared.Principal.{Principal}
use Rattle.lx_caps.specs.declared.Principal.TheVariants.{Kernel, Shared, Global, Inst}
use Rattle.lx_caps.specs.History.{History, has, owned_among, owns, same_principal}
use Rattle.lx_caps.specs.Loans.{Endings, before_loan, before_shut, before_shut_all, goes_on, lends, none_end}
use Rattle.lx_caps.specs.Names.{Namings, instance_count}
use Rattle.lx_caps.specs.Writers.{is_slot_writer, is_writer, moments, zeroes}
use Rattle.lx_slot_types.specs.Gets.{below}
use Rattle.lx_model.specs.declared.program.Program.{Program}
use Rattle.lx_model.specs.State.{module_principals}
use Rattle.lx_run_laws.specs.Listed.{is_listed, is_there, receivers}
use Rattle.lx_run_laws.proofs.Given.{AllGiven, IsCounted}
use Rattle.lx_caps.proofs.Principals.{same_principal_is}

-- lists

pub any_below : (test : ℕ → Bool) (n m : ℕ) → m < n → test m ≡ true → list_any test (below n) ≡ true
any_below test zero m less is = absurd (omega arith)
any_below test (suc n) m less is =
    list_any-append test (below n) (n ∷ [])
    ∙ elim (cases_eq m n) [
      | inl same ↦ or_right (list_any test (below n)) (test n || false) (or_left (test n) false (subst (λ k. test k ≡ true) same is))
      | inr other ↦ or_left (list_any test (below n)) (test n || false) (any_below test n m (omega arith) is)
    ]

pub below_any : (test : ℕ → Bool) (n : ℕ) → list_any test (below n) ≡ true → (j : ℕ) × (j < n) × (test j ≡ true)
below_any test zero is = absurd (cc)
below_any test (suc n) is =
    elim (or_cases (list_any test (below n)) (test n || false) (sym (list_any-append test (below n) (n ∷ [])) ∙ is)) [
      | inl before ↦ (let (j, less, here) = below_any test n before in (j, omega arith, here))
      | inr last ↦ (n, omega arith, sym (or_false (test n)) ∙ last)
    ]

pub any_flat : {A : Type 0} (test : A → Bool) (f : ℕ → List A) (xs : List ℕ) → list_any (λ x. list_any test (f x)) xs ≡ true → list_any test (flat_map f xs) ≡ true
any_flat test f [] is = absurd (cc)
any_flat test f (x ∷ xs) is =
    list_any-append test (f x) (flat_map f xs)
    ∙ elim (or_cases (list_any test (f x)) (list_any (λ y. list_any test (f y)) xs) is) [
      | inl here ↦ or_left (list_any test (f x)) _ here
      | inr there ↦ or_right (list_any test (f x)) _ (any_flat test f xs there)
    ]

pub any_map : {A : Type 0} (test : A → Bool) (h : ℕ → A) (xs : List ℕ) → list_any (λ x. test (h x)) xs ≡ true → list_any test (map h xs) ≡ true
any_map test h [] is = is
any_map test h (x ∷ xs) is =
    elim (or_cases (test (h x)) (list_any (λ y. test (h y)) xs) is) [
      | inl here ↦ or_left (test (h x)) _ here
      | inr there ↦ or_right (test (h x)) _ (any_map test h xs there)
    ]

-- a principal that is there is among those of its module

shared_there : (names : Namings) (m : ℕ) → list_any (same_principal (Shared m)) (module_principals names m) ≡ true
shared_there names m = or_left (nat_eq m m) _ (eq-eqb m m refl)

global_there : (names : Namings) (m : ℕ) → list_any (same_principal (Global m)) (module_principals names m) ≡ true
global_there names m = or_left (nat_eq m m) _ (eq-eqb m m refl)

instance_there : (names : Namings) (m k : ℕ) → k < instance_count names m → list_any (same_principal (Inst m k)) (module_principals names m) ≡ true
instance_there names m k less =
    any_map (same_principal (Inst m k)) (Inst m) (below (instance_count names m))
    (any_below (λ j. nat_eq m m && nat_eq k j) (instance_count names m) k less (and_from (nat_eq m m) (nat_eq k k) (eq-eqb m m refl) (eq-eqb k k refl)))

there_listed : (p : Program) (names : Namings) (q : Principal) (m : ℕ) → m < length p.modules → list_any (same_principal q) (module_principals names m) ≡ true → is_listed p names q ≡ true
there_listed p names q m less is =
    any_flat (same_principal q) (module_principals names) (below (length p.modules))
    (any_below (λ j. list_any (same_principal q) (module_principals names j)) (length p.modules) m less is)

pub counted_listed : (p : Program) (names : Namings) (q : Principal) → IsCounted p names q → is_listed p names q ≡ true
counted_listed p names Kernel is = absurd is
counted_listed p names (Shared m) is = there_listed p names (Shared m) m is (shared_there names m)
counted_listed p names (Global m) is = there_listed p names (Global m) m is (global_there names m)
counted_listed p names (Inst m k) is = there_listed p names (Inst m k) m is.0 (instance_there names m k is.1)

-- and a listed one is there

flat_any : (test : Principal → Bool) (f : ℕ → List Principal) (xs : List ℕ) → list_any test (flat_map f xs) ≡ true → list_any (λ x. list_any test (f x)) xs ≡ true
flat_any test f [] is = is
flat_any test f (x ∷ xs) is =
    elim (or_cases (list_any test (f x)) (list_any test (flat_map f xs)) (sym (list_any-append test (f x) (flat_map f xs)) ∙ is)) [
      | inl here ↦ or_left (list_any test (f x)) _ here
      | inr there ↦ or_right (list_any test (f x)) _ (flat_any test f xs there)
    ]

map_any : (test : Principal → Bool) (h : ℕ → Principal) (xs : List ℕ) → list_any test (map h xs) ≡ true → list_any (λ x. test (h x)) xs ≡ true
map_any test h [] is = is
map_any test h (x ∷ xs) is =
    elim (or_cases (test (h x)) (list_any test (map h xs)) is) [
      | inl here ↦ or_left (test (h x)) _ here
      | inr there ↦ or_right (test (h x)) _ (map_any test h xs there)
    ]

instance_of : (test : Principal → Bool) (names : Namings) (j : ℕ) → list_any test (map (Inst j) (below (instance_count names j))) ≡ true
    → (i : ℕ) × (i < instance_count names j) × (test (Inst j i) ≡ true)
instance_of test names j is = below_any (λ i. test (Inst j i)) (instance_count names j) (map_any test (Inst j) (below (instance_count names j)) is)

of_module : (p : Program) (names : Namings) (q : Principal) (j : ℕ) → j < length p.modules → list_any (same_principal q) (module_principals names j) ≡ true → IsCounted p names q
of_module p names Kernel j less is = let (i, few, wrong) = instance_of (same_principal Kernel) names j is in absurd (cc)
of_module p names (Shared m) j less is =
    elim (or_cases (nat_eq m j) (list_any (same_principal (Shared m)) (map (Inst j) (below (instance_count names j)))) is) [
      | inl here ↦ subst (λ n. n < length p.modules) (sym (eqb-true m j here)) less
      | inr there ↦ (let (i, few, wrong) = instance_of (same_principal (Shared m)) names j there in absurd (cc))
    ]
of_module p names (Global m) j less is =
    elim (or_cases (nat_eq m j) (list_any (same_principal (Global m)) (map (Inst j) (below (instance_count names j)))) is) [
      | inl here ↦ subst (λ n. n < length p.modules) (sym (eqb-true m j here)) less
      | inr there ↦ (let (i, few, wrong) = instance_of (same_principal (Global m)) names j there in absurd (cc))
    ]
of_module p names (Inst m k) j less is =
    let (i, few, both) = instance_of (same_principal (Inst m k)) names j is in
    let parts = and_parts (nat_eq m j) (nat_eq k i) both in
    let module_is = eqb-true m j parts.0 in (
      subst (λ n. n < length p.modules) (sym module_is) less,
      subst (λ n. k < instance_count names n) (sym module_is) (subst (λ n. n < instance_count names j) (sym (eqb-true k i parts.1)) few),
    )

listed_counted : (p : Program) (names : Namings) (q : Principal) → is_listed p names q ≡ true → IsCounted p names q
listed_counted p names q is =
    let (j, less, here) = below_any (λ m. list_any (same_principal q) (module_principals names m)) (length p.modules)
    (flat_any (same_principal q) (module_principals names) (below (length p.modules)) is) in
    of_module p names q j less here

counted_there : (p : Program) (names : Namings) (q : Principal) → IsCounted p names q → is_there p names q ≡ true
counted_there p names Kernel is = absurd is
counted_there p names (Shared m) is = grind (arith, nat_tests, is)
counted_there p names (Global m) is = grind (arith, nat_tests, is)
counted_there p names (Inst m k) is =
    let first = is.0 in let second = is.1 in and_from (nat_lt m (length p.modules)) (nat_lt k (instance_count names m)) (grind (arith, nat_tests, first)) (grind (arith, nat_tests, second))

there_counted : (p : Program) (names : Namings) (q : Principal) → is_there p names q ≡ true → IsCounted p names q
there_counted p names Kernel is = absurd (cc)
there_counted p names (Shared m) is = grind (arith, nat_tests, is)
there_counted p names (Global m) is = grind (arith, nat_tests, is)
there_counted p names (Inst m k) is =
    let parts = and_parts (nat_lt m (length p.modules)) (nat_lt k (instance_count names m)) is in
    let first = parts.0 in let second = parts.1 in (grind (arith, nat_tests, first), grind (arith, nat_tests, second))

pub listed_there : (p : Program) (names : Namings) (q : Principal) → is_listed p names q ≡ is_there p names q
listed_there p names q =
    same_tests (is_listed p names q) (is_there p names q)
    (λ is. counted_there p names q (listed_counted p names q is)) (λ is. counted_listed p names q (there_counted p names q is))

-- one principal

-- whoever owns an atom was given it

lent_to : (a b c d : Bool) → (a && (b && (c && d))) ≡ true → c ≡ true
lent_to a b c d is = (and_parts c d (and_parts b (c && d) (and_parts a (b && (c && d)) is).1).1).0

owner_given : (G : Principal → Type 0) (q : Principal) (ends : Endings) (h : History) (x : Atom) → owned_among (same_principal q) ends h x ≡ true → AllGiven G h → G q
owner_given G q ends [] x is all = absurd (cc)
owner_given G q ends (Grant r c ∷ h) x is all =
    elim (or_cases (same_principal q r && has c x) (owned_among (same_principal q) ends h x) is) [
      | inl here ↦ subst G (sym (same_principal_is q r (and_parts (same_principal q r) (has c x) here).0)) all.0
      | inr there ↦ owner_given G q ends h x there all.1
    ]
owner_given G q ends (Strip c ∷ h) x is all = owner_given G q ends h x (and_parts _ (owned_among (same_principal q) ends h x) is).1 all
owner_given G q ends (Zero at size ∷ h) x is all = owner_given G q ends h x is all
owner_given G q ends (Loan t ∷ h) x is all = owner_given G q (before_loan t ends) h x is all
owner_given G q ends (Lend t r c ∷ h) x is all =
    elim (or_cases (goes_on (ends t) && (lends h t && (same_principal q r && has c x))) (owned_among (same_principal q) ends h x) is) [
      | inl here ↦ subst G (sym (same_principal_is q r (lent_to (goes_on (ends t)) (lends h t) (same_principal q r) (has c x) here))) all.0
      | inr there ↦ owner_given G q ends h x there all.1
    ]
owner_given G q ends (Shut t n ∷ h) x is all = owner_given G q (before_shut t n ends) h x is all
owner_given G q ends (ShutAll t ∷ h) x is all = owner_given G q (before_shut_all t ends) h x is all

pub owns_given : (G : Principal → Type 0) (q : Principal) (h : History) (x : Atom) → owns h q x ≡ true → AllGiven G h → G q
owns_given G q h x is all = owner_given G q none_end h x is all

pub receivers_pass : (test : Principal → Bool) (h : History) → AllGiven (λ q. test q ≡ true) h → list_all test (receivers h) ≡ true
receivers_pass test [] all = refl
receivers_pass test (Grant q c ∷ h) all = and_from (test q) _ all.0 (receivers_pass test h all.1)
receivers_pass test (Strip c ∷ h) all = receivers_pass test h all
receivers_pass test (Zero at size ∷ h) all = receivers_pass test h all
receivers_pass test (Loan t ∷ h) all = receivers_pass test h all
receivers_pass test (Lend t q c ∷ h) all = and_from (test q) _ all.0 (receivers_pass test h all.1)
receivers_pass test (Shut t n ∷ h) all = receivers_pass test h all
receivers_pass test (ShutAll t ∷ h) all = receivers_pass test h all

-- so was whoever is a writer

earlier_given : (G : Principal → Type 0) (act : Act) (h : History) → AllGiven G (act ∷ h) → AllGiven G h
earlier_given G (Grant q c) h all = all.1
earlier_given G (Strip c) h all = all
earlier_given G (Zero at size) h all = all
earlier_given G (Loan t) h all = all
earlier_given G (Lend t q c) h all = all.1
earlier_given G (Shut t n) h all = all
earlier_given G (ShutAll t) h all = all

earlier : (owned : History → Bool) (b : Bool) (hs : List History) → list_any owned (if b then [] else hs) ≡ true → list_any owned hs ≡ true
earlier owned true hs is = absurd (cc)
earlier owned false hs is = is

writer_given : (G : Principal → Type 0) (q : Principal) (h : History) (b : ℕ) → is_writer h b q ≡ true → AllGiven G h → G q
writer_given G q [] b is all = absurd (cc)
writer_given G q (act ∷ h) b is all =
    elim (or_cases (owns (act ∷ h) q (Byte b)) (list_any (λ moment. owns moment q (Byte b)) (if zeroes act b then [] else moments h b)) is) [
      | inl now ↦ owns_given G q (act ∷ h) (Byte b) now all
      | inr before ↦ writer_given G q h b (earlier (λ moment. owns moment q (Byte b)) (zeroes act b) (moments h b) before) (earlier_given G act h all)
    ]

any_gives : (R : Type 0) (test : ℕ → Bool) (ks : List ℕ) → ((k : ℕ) → test k ≡ true → R) → list_any test ks ≡ true → R
any_gives R test [] go is = absurd (cc)
any_gives R test (k ∷ ks) go is =
    elim (or_cases (test k) (list_any test ks) is) [ inl here ↦ go k here | inr there ↦ any_gives R test ks go there ]

pub slot_writer_given : (G : Principal → Type 0) (q : Principal) (h : History) (slot : ℕ) → is_slot_writer h slot q ≡ true → AllGiven G h → G q
slot_writer_given G q h slot is all = any_gives (G q) (λ k. is_writer h (slot + k) q) (0 ∷ 1 ∷ 2 ∷ 3 ∷ 4 ∷ 5 ∷ 6 ∷ 7 ∷ []) (λ k at. writer_given G q h (slot + k) at all) is
