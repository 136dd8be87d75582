-- Each atom that a principal owns is of a capability that is reported of it.
use Rattle.std.proofs.Common.{◌≡◌, ◌⊎◌, ℕ, ◌+◌, ◌-◌, ◌<◌, ◌≤◌, Bool, true, false, not, ◌&&◌, ◌||◌, nat_eq, Option, Some, None, List, [], ◌∷◌, ◌++◌, filter, inl, inr, refl, sym, ap, subst, ◌∙◌, arith, if◌then◌else◌}
use Rattle.std.specs.Prelude.{⊤, nat_le, nat_lt}
use Rattle.std.specs.List.{flat_map, list_any}
use Rattle.std.proofs.lemmas.Bool.{and_parts, cases_Bool, eq-eqb, eqb-true, or_cases, or_left, or_right, true≢false}
use Rattle.std.proofs.lemmas.Bool.Decides.{nat_tests}
use Rattle.std.proofs.lemmas.List.Folds.{list_any-append}
use Rattle.std.proofs.lemmas.Map.Views.{any-filter_same}
use Rattle.lx_words.proofs.Tests.{same_tests, nat_turned, either_second}
use Rattle.lx_caps.specs.declared.Act.TheVariants.{Grant, Strip, Zero, Loan, Lend, Shut, ShutAll}
use Rattle.lx_caps.specs.declared.Atom.{Atom}
use Rattle.lx_caps.specs.declared.Atom.TheVariants.{Byte, Call, Ref}
use Rattle.lx_caps.specs.declared.Cap.{Cap}
use Rattle.lx_caps.specs.declared.Cap.TheVariants as cap
use Rattle.lx_caps.specs.declared.Principal.{Principal}
use Rattle.lx_caps.specs.History.{History, has, owned_among, owns, same_principal}
use Rattle.lx_caps.specs.Loans.{Endings, before_loan, before_shut, before_shut_all, goes_on, lends, none_end}
use Rattle.lx_caps.specs.Regions.{covers}
use Rattle.lx_slot_types.specs.Gets.{below}
use Rattle.lx_model.specs.Owned.{ascending, begun_behind, call_address, closed_at, ends_of, mentioned, owned_calls, owned_caps, owned_ranges, owned_refs, ranges, ref_address}
use Rattle.lx_run_laws.specs.Listed.{is_reported}
use Rattle.lx_run_laws.proofs.Cuts.{Above, Ascends, Finds, ascending_in, mentioned_in, sorted, above_less}
use Rattle.lx_run_laws.proofs.Listing.{any_below, any_flat, any_map}

abbrev Covers : Atom → List Cap → Type 0
Covers x cs = list_any (λ c. has c x) cs ≡ true

-- calls

call_in : (a : ℕ) (c : Cap) → has c (Call a) ≡ true → Finds (nat_eq a) (call_address c)
call_in a (cap.Write at size) is = absurd (cc)
call_in a (cap.Call b) is = or_left (nat_eq a b) false (eq-eqb a b (sym (eqb-true b a is)))
call_in a (cap.Ref t b) is = absurd (cc)

-- those of these addresses that pass
kept_in : (a : ℕ) (test : ℕ → Bool) (ns : List ℕ) → test a ≡ true → Finds (nat_eq a) ns → Finds (λ b. nat_eq b a) (filter test ns)
kept_in a test ns is found =
    let turned : Finds (nat_eq a) (filter test ns) → Finds (λ b. nat_eq b a) (filter test ns) =
    λ there. ap (λ (same : ℕ → Bool). list_any same (filter test ns)) (λ j b. nat_turned b a j) ∙ there in
    turned (any-filter_same (nat_eq a) test true (λ b same. subst (λ k. test k ≡ true) (eqb-true a b same) is) ns ∙ found)

calls_covered : (h : History) (q : Principal) (a : ℕ) → owns h q (Call a) ≡ true → Covers (Call a) (owned_calls h q)
calls_covered h q a is =
    any_map (λ c. has c (Call a)) cap.Call (filter (λ b. owns h q (Call b)) (ascending (mentioned call_address h)))
    (kept_in a (λ b. owns h q (Call b)) (ascending (mentioned call_address h)) is
    (ascending_in (nat_eq a) (mentioned call_address h) (mentioned_in call_address (nat_eq a) q none_end h (Call a) (call_in a) is)))

-- references

ref_if : (e : Bool) (a b : ℕ) → (e && nat_eq b a) ≡ true → Finds (nat_eq a) (if e then b ∷ [] else [])
ref_if true a b is = or_left (nat_eq a b) false (eq-eqb a b (sym (eqb-true b a is)))
ref_if false a b is = absurd (cc)

ref_in : (ty a : ℕ) (c : Cap) → has c (Ref ty a) ≡ true → Finds (nat_eq a) (ref_address ty c)
ref_in ty a (cap.Write at size) is = absurd (cc)
ref_in ty a (cap.Call b) is = absurd (cc)
ref_in ty a (cap.Ref t b) is = ref_if (nat_eq t ty) a b is

refs_covered : (h : History) (q : Principal) (ty a : ℕ) → owns h q (Ref ty a) ≡ true → Covers (Ref ty a) (owned_refs h q ty)
refs_covered h q ty a is =
    let kept = filter (λ b. owns h q (Ref ty b)) (ascending (mentioned (ref_address ty) h)) in
    any_map (λ c. has c (Ref ty a)) (cap.Ref ty) kept
    (ap (λ e. list_any (λ b. e && nat_eq b a) kept) (eq-eqb ty ty refl)
    ∙ kept_in a (λ b. owns h q (Ref ty b)) (ascending (mentioned (ref_address ty) h)) is
    (ascending_in (nat_eq a) (mentioned (ref_address ty) h) (mentioned_in (ref_address ty) (nat_eq a) q none_end h (Ref ty a) (ref_in ty a) is)))

-- bytes: between two ends that follow one another all have one owner

covers_alike : (at size b c : ℕ) → c ≤ b → (at ≤ c) ⊎ (b < at) → (at + size ≤ c) ⊎ (b < at + size) → covers at size b ≡ covers at size c
covers_alike at size b c most (inl low) (inl high) = same_tests _ _ (λ is. grind (arith, nat_tests, is, most, low, high)) (λ is. grind (arith, nat_tests, is, most, low, high))
covers_alike at size b c most (inl low) (inr high) = same_tests _ _ (λ is. grind (arith, nat_tests, is, most, low, high)) (λ is. grind (arith, nat_tests, is, most, low, high))
covers_alike at size b c most (inr low) (inl high) = same_tests _ _ (λ is. grind (arith, nat_tests, is, most, low, high)) (λ is. grind (arith, nat_tests, is, most, low, high))
covers_alike at size b c most (inr low) (inr high) = same_tests _ _ (λ is. grind (arith, nat_tests, is, most, low, high)) (λ is. grind (arith, nat_tests, is, most, low, high))

-- no end stands behind c and up to b
abbrev NoneBetween : ℕ → ℕ → List ℕ → Type 0
NoneBetween c b ns = (n : ℕ) → Finds (nat_eq n) ns → (n ≤ c) ⊎ (b < n)

cap_alike : (k : Cap) (b c : ℕ) → c ≤ b → NoneBetween c b (ends_of k) → has k (Byte b) ≡ has k (Byte c)
cap_alike (cap.Call a) b c most none = refl
cap_alike (cap.Ref t a) b c most none = refl
cap_alike (cap.Write at size) b c most none =
    covers_alike at size b c most (none at (or_left (nat_eq at at) _ (eq-eqb at at refl)))
    (none (at + size) (or_right (nat_eq (at + size) at) _ (or_left (nat_eq (at + size) (at + size)) false (eq-eqb (at + size) (at + size) refl))))

none_first : (c b : ℕ) (ns more : List ℕ) → NoneBetween c b (ns ++ more) → NoneBetween c b ns
none_first c b ns more none n found = none n (list_any-append (nat_eq n) ns more ∙ or_left (list_any (nat_eq n) ns) _ found)

none_rest : (c b : ℕ) (ns more : List ℕ) → NoneBetween c b (ns ++ more) → NoneBetween c b more
none_rest c b ns more none n found = none n (list_any-append (nat_eq n) ns more ∙ or_right (list_any (nat_eq n) ns) _ found)

owned_alike : (q : Principal) (ends : Endings) (h : History) (b c : ℕ) → c ≤ b → NoneBetween c b (mentioned ends_of h) → owned_among (same_principal q) ends h (Byte b) ≡ owned_among (same_principal q) ends h (Byte c)
owned_alike q ends [] b c most none = refl
owned_alike q ends (Grant r k ∷ h) b c most none =
    ap (λ e. (same_principal q r && e) || owned_among (same_principal q) ends h (Byte b)) (cap_alike k b c most (none_first c b (ends_of k) (mentioned ends_of h) none))
    ∙ ap (λ o. (same_principal q r && has k (Byte c)) || o) (owned_alike q ends h b c most (none_rest c b (ends_of k) (mentioned ends_of h) none))
owned_alike q ends (Strip k ∷ h) b c most none =
    ap (λ e. not e && owned_among (same_principal q) ends h (Byte b)) (cap_alike k b c most (none_first c b (ends_of k) (mentioned ends_of h) none))
    ∙ ap (λ o. not (has k (Byte c)) && o) (owned_alike q ends h b c most (none_rest c b (ends_of k) (mentioned ends_of h) none))
owned_alike q ends (Zero at size ∷ h) b c most none = owned_alike q ends h b c most none
owned_alike q ends (Loan t ∷ h) b c most none = owned_alike q (before_loan t ends) h b c most none
owned_alike q ends (Lend t r k ∷ h) b c most none =
    ap (λ e. (goes_on (ends t) && (lends h t && (same_principal q r && e))) || owned_among (same_principal q) ends h (Byte b))
    (cap_alike k b c most (none_first c b (ends_of k) (mentioned ends_of h) none))
    ∙ ap (λ o. (goes_on (ends t) && (lends h t && (same_principal q r && has k (Byte c)))) || o) (owned_alike q ends h b c most (none_rest c b (ends_of k) (mentioned ends_of h) none))
owned_alike q ends (Shut t n ∷ h) b c most none = owned_alike q (before_shut t n ends) h b c most none
owned_alike q ends (ShutAll t ∷ h) b c most none = owned_alike q (before_shut_all t ends) h b c most none

-- at the last end nobody owns: a range that has the byte ends behind it

past_end : (b : ℕ) (k : Cap) → has k (Byte b) ≡ true → Finds (nat_lt b) (ends_of k)
past_end b (cap.Write at size) is =
    let inside : nat_lt b (at + size) ≡ true = (and_parts (nat_le at b) (nat_lt b (at + size)) is).1 in
    or_right (nat_lt b at) _ (or_left (nat_lt b (at + size)) false inside)
past_end b (cap.Call a) is = absurd (cc)
past_end b (cap.Ref t a) is = absurd (cc)

from_start : (b : ℕ) (k : Cap) → has k (Byte b) ≡ true → Finds (λ n. nat_le n b) (ends_of k)
from_start b (cap.Write at size) is = or_left (nat_le at b) _ (and_parts (nat_le at b) (nat_lt b (at + size)) is).0
from_start b (cap.Call a) is = absurd (cc)
from_start b (cap.Ref t a) is = absurd (cc)

abbrev ends : History → List ℕ
ends h = ascending (mentioned ends_of h)

later_end : (h : History) (q : Principal) (b : ℕ) → owns h q (Byte b) ≡ true → Finds (nat_lt b) (ends h)
later_end h q b is = ascending_in (nat_lt b) (mentioned ends_of h) (mentioned_in ends_of (nat_lt b) q none_end h (Byte b) (past_end b) is)

-- the numbers found in the list are this one or less, or stand in the rest
abbrev UpTo : List ℕ → ℕ → List ℕ → Type 0
UpTo all c cs = (n : ℕ) → Finds (nat_eq n) all → (n ≤ c) ⊎ Finds (nat_eq n) cs

moved : (all : List ℕ) (c d : ℕ) (ds : List ℕ) → c < d → UpTo all c (d ∷ ds) → UpTo all d ds
moved all c d ds less up n found = elim (up n found) [
  | inl low ↦ inl (omega (arith, low, less))
  | inr there ↦ elim (or_cases (nat_eq n d) (list_any (nat_eq n) ds) there) [
    | inl here ↦ inl (let same = eqb-true n d here in omega (arith, same))
    | inr later ↦ inr later
  ]
]

none_above : (b : ℕ) (ns : List ℕ) → Above b ns → (n : ℕ) → Finds (nat_eq n) ns → b < n
none_above b [] above n found = absurd (cc)
none_above b (m ∷ ms) above n found = elim (or_cases (nat_eq n m) (list_any (nat_eq n) ms) found) [
  | inl here ↦ (let same = eqb-true n m here in let less = above.0 in omega (arith, same, less))
  | inr there ↦ none_above b ms above.1 n there
]

-- the last of these ends has no owner
abbrev EndsFree : History → Principal → ℕ → List ℕ → Type 0
EndsFree h q c [] = owns h q (Byte c) ≡ false
EndsFree h q c (d ∷ ds) = EndsFree h q d ds

last_in : (c : ℕ) (test : ℕ → Bool) (ns : List ℕ) → ((n : ℕ) → Finds (nat_eq n) ns → n ≤ c) → Finds (nat_lt c) ns → ⊥
last_in c test [] most found = absurd (cc)
last_in c test (m ∷ ms) most found = elim (or_cases (nat_lt c m) (list_any (nat_lt c) ms) found) [
  | inl here ↦ (let small = most m (or_left (nat_eq m m) (list_any (nat_eq m) ms) (eq-eqb m m refl)) in absurd (grind (arith, nat_tests, here, small)))
  | inr there ↦ last_in c test ms (λ n in_it. most n (or_right (nat_eq n m) (list_any (nat_eq n) ms) in_it)) there
]

ends_free : (h : History) (q : Principal) (c : ℕ) (cs : List ℕ) → Ascends (c ∷ cs) → UpTo (ends h) c cs → EndsFree h q c cs
ends_free h q c [] all up =
    same_tests (owns h q (Byte c)) false (λ is. absurd (last_in c (nat_lt c) (ends h) (λ n found. only (up n found)) (later_end h q c is))) (λ wrong. absurd (cc)) where
      only : {n : ℕ} → (n ≤ c) ⊎ (false ≡ true) → n ≤ c
      only (inl low) = low
      only (inr wrong) = absurd (cc)
ends_free h q c (d ∷ ds) all up = ends_free h q d ds all.1 (moved (ends h) c d ds all.0.0 up)

-- a range that has begun at the byte or before it, where all further ends are behind it

in_range : (a c b : ℕ) → a ≤ b → b < c → covers a (c - a) b ≡ true
in_range a c b low high = grind (arith, nat_tests, low, high)

close_if : (h : History) (q : Principal) (b a c : ℕ) (cs : List ℕ) (o : Bool) → a ≤ b → b < c → (o ≡ true → Covers (Byte b) (ranges h q (Some a) cs))
    → Covers (Byte b) (closed_at o (Some a) c ++ ranges h q (begun_behind o (Some a) c) cs)
close_if h q b a c cs true low high later = later refl
close_if h q b a c cs false low high later = or_left (covers a (c - a) b) _ (in_range a c b low high)

closes : (h : History) (q : Principal) (b a c : ℕ) (cs : List ℕ) → a ≤ b → Above b (c ∷ cs) → EndsFree h q c cs → Covers (Byte b) (ranges h q (Some a) (c ∷ cs))
closes h q b a c [] low above free = close_if h q b a c [] (owns h q (Byte c)) low above.0 (λ is. absurd (true≢false (sym is ∙ free)))
closes h q b a c (d ∷ ds) low above free = close_if h q b a c (d ∷ ds) (owns h q (Byte c)) low above.0 (λ is. closes h q b a d ds low above.1 free)

-- up to the last end that is not behind the byte

abbrev HasBegun : ℕ → Option ℕ → Type 0
HasBegun c None = ⊤
HasBegun c (Some a) = a ≤ c

begun_on : (c d : ℕ) (o : Bool) (begun : Option ℕ) → c < d → HasBegun c begun → HasBegun d (begun_behind o begun c)
begun_on c d true None less is = omega (arith, less)
begun_on c d true (Some a) less is = omega (arith, less, is)
begun_on c d false None less is = tt
begun_on c d false (Some a) less is = tt

starts_here : (h : History) (q : Principal) (b c d : ℕ) (ds : List ℕ) (begun : Option ℕ) (o : Bool) → o ≡ true → c ≤ b → HasBegun c begun → Above b (d ∷ ds) → EndsFree h q d ds
    → Covers (Byte b) (closed_at o begun c ++ ranges h q (begun_behind o begun c) (d ∷ ds))
starts_here h q b c d ds None true is low begun above free = closes h q b c d ds low above free
starts_here h q b c d ds (Some a) true is low begun above free = closes h q b a d ds (omega (arith, low, begun)) above free
starts_here h q b c d ds begun false is low has_begun above free = absurd (cc)

reaches : (h : History) (q : Principal) (b : ℕ) (begun : Option ℕ) (c : ℕ) (cs : List ℕ) → owns h q (Byte b) ≡ true → c ≤ b → HasBegun c begun → Ascends (c ∷ cs) → UpTo (ends h) c cs
    → Finds (nat_lt b) cs → Covers (Byte b) (ranges h q begun (c ∷ cs))
reaches h q b begun c [] is low has_begun all up later = absurd (cc)
reaches h q b begun c (d ∷ ds) is low has_begun all up later = elim (cases_Bool (nat_lt b d)) [
  | inl last ↦ (let above : b < d = grind (arith, nat_tests, last) in
      let none : NoneBetween c b (mentioned ends_of h) = λ n found. elim (up n (ascending_in (nat_eq n) (mentioned ends_of h) found)) [
        | inl before ↦ inl before
        | inr there ↦ inr (none_above b (d ∷ ds) (above, above_less b d ds above all.1.0) n there)
      ] in
      starts_here h q b c d ds begun (owns h q (Byte c)) (sym (owned_alike q none_end h b c low none) ∙ is) low has_begun (above, above_less b d ds above all.1.0)
      (ends_free h q d ds all.1 (moved (ends h) c d ds all.0.0 up)))
  | inr more ↦ list_any-append (λ k. has k (Byte b)) (closed_at (owns h q (Byte c)) begun c) _
      ∙ or_right (list_any (λ k. has k (Byte b)) (closed_at (owns h q (Byte c)) begun c)) _
      (reaches h q b (begun_behind (owns h q (Byte c)) begun c) d ds is (grind (arith, nat_tests, more)) (begun_on c d (owns h q (Byte c)) begun all.0.0 has_begun) all.1
      (moved (ends h) c d ds all.0.0 up) (either_second (nat_lt b d) (list_any (nat_lt b) ds) more later))
]

-- the first end is not behind the byte
low_first : (b c : ℕ) (cs : List ℕ) → Above c cs → Finds (λ n. nat_le n b) cs → c ≤ b
low_first b c [] above found = absurd (cc)
low_first b c (d ∷ ds) above found = elim (or_cases (nat_le d b) (list_any (λ n. nat_le n b) ds) found) [
  | inl here ↦ (let less = above.0 in grind (arith, nat_tests, here, less))
  | inr there ↦ low_first b c ds above.1 there
]

covered_from : (h : History) (q : Principal) (b : ℕ) (cs : List ℕ) → ends h ≡ cs → owns h q (Byte b) ≡ true → Ascends cs → Finds (λ n. nat_le n b) cs → Finds (nat_lt b) cs → Covers (Byte b) (ranges h q None cs)
covered_from h q b [] same is all low high = absurd (cc)
covered_from h q b (c ∷ cs) same is all low high =
    let first : c ≤ b = elim (or_cases (nat_le c b) (list_any (λ n. nat_le n b) cs) low) [
      | inl here ↦ grind (arith, nat_tests, here)
      | inr there ↦ low_first b c cs all.0 there
    ] in
    reaches h q b None c cs is first tt all (λ n found. up n (subst (Finds (nat_eq n)) same found)) (either_second (nat_lt b c) (list_any (nat_lt b) cs) (grind (arith, nat_tests, first)) high) where
      up : (n : ℕ) → Finds (nat_eq n) (c ∷ cs) → (n ≤ c) ⊎ Finds (nat_eq n) cs
      up n found = elim (or_cases (nat_eq n c) (list_any (nat_eq n) cs) found) [
        | inl here ↦ inl (let alike = eqb-true n c here in omega (arith, alike))
        | inr there ↦ inr there
      ]

ranges_covered : (h : History) (q : Principal) (b : ℕ) → owns h q (Byte b) ≡ true → Covers (Byte b) (owned_ranges h q)
ranges_covered h q b is =
    covered_from h q b (ends h) refl is (sorted (mentioned ends_of h))
    (ascending_in (λ n. nat_le n b) (mentioned ends_of h) (mentioned_in ends_of (λ n. nat_le n b) q none_end h (Byte b) (from_start b) is)) (later_end h q b is)

-- all that is reported

in_first : (x : Atom) (xs ys zs : List Cap) → Covers x xs → Covers x (xs ++ ys ++ zs)
in_first x xs ys zs is =
    list_any-append (λ c. has c x) (xs ++ ys) zs ∙ or_left (list_any (λ c. has c x) (xs ++ ys)) _ (list_any-append (λ c. has c x) xs ys ∙ or_left (list_any (λ c. has c x) xs) _ is)

in_second : (x : Atom) (xs ys zs : List Cap) → Covers x ys → Covers x (xs ++ ys ++ zs)
in_second x xs ys zs is =
    list_any-append (λ c. has c x) (xs ++ ys) zs ∙ or_left (list_any (λ c. has c x) (xs ++ ys)) _ (list_any-append (λ c. has c x) xs ys ∙ or_right (list_any (λ c. has c x) xs) _ is)

in_third : (x : Atom) (xs ys zs : List Cap) → Covers x zs → Covers x (xs ++ ys ++ zs)
in_third x xs ys zs is = list_any-append (λ c. has c x) (xs ++ ys) zs ∙ or_right (list_any (λ c. has c x) (xs ++ ys)) _ is

pub caps_covered : (types : ℕ) (h : History) (q : Principal) (x : Atom) → is_reported types x ≡ true → owns h q x ≡ true → Covers x (owned_caps types h q)
caps_covered types h q (Byte b) named is = in_first (Byte b) (owned_ranges h q) (owned_calls h q) (flat_map (owned_refs h q) (below types)) (ranges_covered h q b is)
caps_covered types h q (Call a) named is = in_second (Call a) (owned_ranges h q) (owned_calls h q) (flat_map (owned_refs h q) (below types)) (calls_covered h q a is)
caps_covered types h q (Ref ty a) named is =
    in_third (Ref ty a) (owned_ranges h q) (owned_calls h q) (flat_map (owned_refs h q) (below types))
    (any_flat (λ c. has c (Ref ty a)) (owned_refs h q) (below types)
    (any_below (λ t. list_any (λ c. has c (Ref ty a)) (owned_refs h q t)) types ty (grind (arith, nat_tests, named)) (refs_covered h q ty a is)))
