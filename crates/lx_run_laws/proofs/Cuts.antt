-- The ascending list of the numbers that a history mentions.
use Rattle.std.proofs.Common.{◌≡◌, ℕ, ◌<◌, Bool, true, false, ◌&&◌, ◌||◌, nat_eq, List, [], ◌∷◌, inl, inr, refl, subst, ◌∙◌, arith, if◌then◌else◌}
use Rattle.std.specs.Prelude.{⊤, nat_lt}
use Rattle.std.specs.List.{list_any}
use Rattle.std.proofs.lemmas.Bool.{and_parts, eqb-true, or_cases, or_left, or_right}
use Rattle.std.proofs.lemmas.Bool.Decides.{nat_tests}
use Rattle.std.proofs.lemmas.List.Folds.{list_any-append}
use Rattle.lx_caps.specs.declared.Act.TheVariants.{Grant, Strip, Zero, Loan, Lend, Shut, ShutAll}
use Rattle.lx_caps.specs.declared.Atom.{Atom}
use Rattle.lx_caps.specs.declared.Cap.{Cap}
use Rattle.lx_caps.specs.declared.Principal.{Principal}
use Rattle.lx_caps.specs.History.{History, has, owned_among, same_principal}
use Rattle.lx_caps.specs.Loans.{Endings, before_loan, before_shut, before_shut_all, goes_on, lends}
use Rattle.lx_model.specs.Owned.{ascending, mentioned, placed}

-- some number of the list passes
abbrev pub Finds : (ℕ → Bool) → List ℕ → Type 0
Finds test ns = list_any test ns ≡ true

-- a capability that has an owned atom is mentioned

lent_has : (a b c d : Bool) → (a && (b && (c && d))) ≡ true → d ≡ true
lent_has a b c d is = (and_parts c d (and_parts b (c && d) (and_parts a (b && (c && d)) is).1).1).1

pub mentioned_in : (part : Cap → List ℕ) (test : ℕ → Bool) (q : Principal) (ends : Endings) (h : History) (x : Atom) → ((c : Cap) → has c x ≡ true → Finds test (part c))
    → owned_among (same_principal q) ends h x ≡ true → Finds test (mentioned part h)
mentioned_in part test q ends [] x found is = absurd (cc)
mentioned_in part test q ends (Grant r c ∷ h) x found is =
    list_any-append test (part c) (mentioned part h)
    ∙ elim (or_cases (same_principal q r && has c x) (owned_among (same_principal q) ends h x) is) [
      | inl here ↦ or_left (list_any test (part c)) _ (found c (and_parts (same_principal q r) (has c x) here).1)
      | inr there ↦ or_right (list_any test (part c)) _ (mentioned_in part test q ends h x found there)
    ]
mentioned_in part test q ends (Strip c ∷ h) x found is =
    list_any-append test (part c) (mentioned part h)
    ∙ or_right (list_any test (part c)) _ (mentioned_in part test q ends h x found (and_parts _ (owned_among (same_principal q) ends h x) is).1)
mentioned_in part test q ends (Zero at size ∷ h) x found is = mentioned_in part test q ends h x found is
mentioned_in part test q ends (Loan t ∷ h) x found is = mentioned_in part test q (before_loan t ends) h x found is
mentioned_in part test q ends (Lend t r c ∷ h) x found is =
    list_any-append test (part c) (mentioned part h)
    ∙ elim (or_cases (goes_on (ends t) && (lends h t && (same_principal q r && has c x))) (owned_among (same_principal q) ends h x) is) [
      | inl here ↦ or_left (list_any test (part c)) _ (found c (lent_has (goes_on (ends t)) (lends h t) (same_principal q r) (has c x) here))
      | inr there ↦ or_right (list_any test (part c)) _ (mentioned_in part test q ends h x found there)
    ]
mentioned_in part test q ends (Shut t n ∷ h) x found is = mentioned_in part test q (before_shut t n ends) h x found is
mentioned_in part test q ends (ShutAll t ∷ h) x found is = mentioned_in part test q (before_shut_all t ends) h x found is

-- what is in a list is in the ascending one

placed_if : (test : ℕ → Bool) (m k : ℕ) (ks : List ℕ) (less same : Bool) → (same ≡ true → m ≡ k) → ((test m || list_any test ks) ≡ true → Finds test (placed m ks))
    → (test m || (test k || list_any test ks)) ≡ true → Finds test (if less then m ∷ k ∷ ks else (if same then k ∷ ks else k ∷ placed m ks))
placed_if test m k ks true same alike behind is = is
placed_if test m k ks false true alike behind is = elim (or_cases (test m) (test k || list_any test ks) is) [
  | inl here ↦ or_left (test k) (list_any test ks) (subst (λ n. test n ≡ true) (alike refl) here)
  | inr there ↦ there
]
placed_if test m k ks false false alike behind is = elim (or_cases (test m) (test k || list_any test ks) is) [
  | inl here ↦ or_right (test k) (list_any test (placed m ks)) (behind (or_left (test m) (list_any test ks) here))
  | inr there ↦ elim (or_cases (test k) (list_any test ks) there) [
    | inl now ↦ or_left (test k) (list_any test (placed m ks)) now
    | inr later ↦ or_right (test k) (list_any test (placed m ks)) (behind (or_right (test m) (list_any test ks) later))
  ]
]

placed_in : (test : ℕ → Bool) (m : ℕ) (ks : List ℕ) → (test m || list_any test ks) ≡ true → Finds test (placed m ks)
placed_in test m [] is = is
placed_in test m (k ∷ ks) is = placed_if test m k ks (nat_lt m k) (nat_eq m k) (λ same. eqb-true m k same) (placed_in test m ks) is

pub ascending_in : (test : ℕ → Bool) (ns : List ℕ) → Finds test ns → Finds test (ascending ns)
ascending_in test [] is = is
ascending_in test (n ∷ ns) is = elim (or_cases (test n) (list_any test ns) is) [
  | inl here ↦ placed_in test n (ascending ns) (or_left (test n) (list_any test (ascending ns)) here)
  | inr there ↦ placed_in test n (ascending ns) (or_right (test n) (list_any test (ascending ns)) (ascending_in test ns there))
]

-- it is ascending

abbrev pub Above : ℕ → List ℕ → Type 0
Above n [] = ⊤
Above n (m ∷ ms) = (n < m) × Above n ms

abbrev pub Ascends : List ℕ → Type 0
Ascends [] = ⊤
Ascends (n ∷ ns) = Above n ns × Ascends ns

pub above_less : (n m : ℕ) (ks : List ℕ) → n < m → Above m ks → Above n ks
above_less n m [] less above = tt
above_less n m (k ∷ ks) less above = (let more = above.0 in omega (arith, less, more), above_less n m ks less above.1)

above_if : (n m k : ℕ) (ks : List ℕ) (less same : Bool) → n < m → Above n (k ∷ ks) → Above n (placed m ks) → Above n (if less then m ∷ k ∷ ks else (if same then k ∷ ks else k ∷ placed m ks))
above_if n m k ks true same below above behind = (below, above)
above_if n m k ks false true below above behind = above
above_if n m k ks false false below above behind = (above.0, behind)

placed_above : (n m : ℕ) (ks : List ℕ) → n < m → Above n ks → Above n (placed m ks)
placed_above n m [] below above = (below, tt)
placed_above n m (k ∷ ks) below above = above_if n m k ks (nat_lt m k) (nat_eq m k) below above (placed_above n m ks below above.1)

ascends_if : (m k : ℕ) (ks : List ℕ) (less same : Bool) → nat_lt m k ≡ less → nat_eq m k ≡ same → Ascends (k ∷ ks) → Ascends (placed m ks)
    → Ascends (if less then m ∷ k ∷ ks else (if same then k ∷ ks else k ∷ placed m ks))
ascends_if m k ks true same is alike all behind =
    let less : m < k = grind (arith, nat_tests, is) in ((less, above_less m k ks less all.0), all)
ascends_if m k ks false true is alike all behind = all
ascends_if m k ks false false is alike all behind = (placed_above k m ks (grind (arith, nat_tests, is, alike)) all.0, behind)

placed_ascends : (m : ℕ) (ks : List ℕ) → Ascends ks → Ascends (placed m ks)
placed_ascends m [] all = (tt, tt)
placed_ascends m (k ∷ ks) all = ascends_if m k ks (nat_lt m k) (nat_eq m k) refl refl all (placed_ascends m ks all.1)

pub sorted : (ns : List ℕ) → Ascends (ascending ns)
sorted [] = tt
sorted (n ∷ ns) = placed_ascends n (ascending ns) (sorted ns)
