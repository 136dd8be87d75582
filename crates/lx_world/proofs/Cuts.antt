-- Ascending lists of numbers.
use Rattle.std.proofs.Common.{◌≡◌, ◌≢◌, ℕ, suc, ◌<◌, ◌≤◌, Bool, true, false, List, [], ◌∷◌, ◌++◌, filter, inl, inr, nat_lt, nat_eq, refl, sym, ap, ◌∙◌, subst, arith}
use Rattle.std.specs.Prelude.{if◌then◌else◌}
use Rattle.std.proofs.lemmas.Bool.{true≢false, cases_lt}
use Rattle.std.proofs.lemmas.Bool.Decides.{nat_tests}
use Rattle.lx_model.specs.Owned.{placed, ascending}
use Rattle.lx_world.specs.Listing.{IsListing}

-- the number stands nowhere in the list
abbrev pub NotIn : ℕ → List ℕ → Type 0
NotIn b [] = Unit {0}
NotIn b (x ∷ xs) = (b ≢ x) × NotIn b xs

-- the list rises strictly, from this number on
abbrev pub Ascends : ℕ → List ℕ → Type 0
Ascends x [] = Unit {0}
Ascends x (c ∷ cs) = (x ≤ c) × Ascends (suc c) cs

pub not_in_append : (b : ℕ) (xs ys : List ℕ) → NotIn b (xs ++ ys) → NotIn b xs × NotIn b ys
not_in_append b [] ys n = (tt, n)
not_in_append b (x ∷ xs) ys n = let rest = not_in_append b xs ys n.1 in ((n.0, rest.0), rest.1)

pub below_all : (x b : ℕ) (cs : List ℕ) → Ascends x cs → b < x → NotIn b cs
below_all x b [] a lt = tt
below_all x b (c ∷ cs) a lt = ((λ e. absurd (omega (arith, e, lt, a.0))), below_all (suc c) b cs a.1 (omega (arith, lt, a.0)))

ascends_step : (less same : Bool) (x n m : ℕ) (ms : List ℕ) → nat_lt n m ≡ less → nat_eq n m ≡ same → x ≤ n → x ≤ m → Ascends (suc m) ms → (suc m ≤ n → Ascends (suc m) (placed n ms)) →
    Ascends x (if less then n ∷ m ∷ ms else (if same then m ∷ ms else m ∷ placed n ms))
ascends_step true same x n m ms l s xn xm a rest = (xn, (grind (arith, nat_tests, l), a))
ascends_step false true x n m ms l s xn xm a rest = (xm, a)
ascends_step false false x n m ms l s xn xm a rest = (xm, rest (grind (arith, nat_tests, l, s)))

ascends_placed : (x n : ℕ) (ms : List ℕ) → x ≤ n → Ascends x ms → Ascends x (placed n ms)
ascends_placed x n [] xn a = (xn, tt)
ascends_placed x n (m ∷ ms) xn a =
    ascends_step (nat_lt n m) (nat_eq n m) x n m ms refl refl xn a.0 a.1 (λ le. ascends_placed (suc m) n ms le a.1)

pub ascends : (xs : List ℕ) → Ascends 0 (ascending xs)
ascends [] = tt
ascends (x ∷ xs) = ascends_placed 0 x (ascending xs) (omega arith) (ascends xs)

not_in_step : (less same : Bool) (b n m : ℕ) (ms : List ℕ) → nat_lt n m ≡ less → nat_eq n m ≡ same → (NotIn b (placed n ms) → (b ≢ n) × NotIn b ms) →
    NotIn b (if less then n ∷ m ∷ ms else (if same then m ∷ ms else m ∷ placed n ms)) → (b ≢ n) × NotIn b (m ∷ ms)
not_in_step true same b n m ms l s rest k = (k.0, k.1)
not_in_step false true b n m ms l s rest k = ((λ e. k.0 (e ∙ grind (arith, nat_tests, s))), k)
not_in_step false false b n m ms l s rest k = let r = rest k.1 in (r.0, (k.0, r.1))

not_in_placed : (b n : ℕ) (ms : List ℕ) → NotIn b (placed n ms) → (b ≢ n) × NotIn b ms
not_in_placed b n [] k = (k.0, tt)
not_in_placed b n (m ∷ ms) k = not_in_step (nat_lt n m) (nat_eq n m) b n m ms refl refl (not_in_placed b n ms) k

-- what stands nowhere in the ascending list stands nowhere in the list
pub not_in : (b : ℕ) (xs : List ℕ) → NotIn b (ascending xs) → NotIn b xs
not_in b [] k = tt
not_in b (x ∷ xs) k = let r = not_in_placed b x (ascending xs) k in (r.0, not_in b xs r.1)

-- a gap before a gap
pub gaps : (p : ℕ → Bool) (x y m : ℕ) → ((k : ℕ) → x ≤ k → k < y → p k ≡ false) → (y ≤ m → p m ≡ false) → x ≤ m → p m ≡ false
gaps p x y m gap more xm = elim (cases_lt m y) [ inl lt ↦ gap m xm lt | inr le ↦ more le ]

-- a list from an earlier number on
pub listing_extends : (p : ℕ → Bool) (x y : ℕ) (ns : List ℕ) → x ≤ y → ((m : ℕ) → x ≤ m → m < y → p m ≡ false) → IsListing p y ns → IsListing p x ns
listing_extends p x y [] le gap l = λ m xm. gaps p x y m gap (l m) xm
listing_extends p x y (n ∷ ns) le gap l = (omega (arith, le, l.0), (λ m xm mn. gaps p x y m gap (λ ym. l.1 m ym mn) xm), l.2, l.3)

equal : (m c : ℕ) → c ≤ m → m < suc c → m ≡ c
equal m c cm mc = omega (arith, cm, mc)

filter_step : (b : Bool) (p : ℕ → Bool) (x c : ℕ) (cs : List ℕ) → p c ≡ b → x ≤ c → ((m : ℕ) → x ≤ m → m < c → p m ≡ false) → IsListing p (suc c) (filter p cs) →
    IsListing p x (if b then c ∷ filter p cs else filter p cs)
filter_step true p x c cs e le gap rest = (le, gap, e, rest)
filter_step false p x c cs e le gap rest =
    listing_extends p x (suc c) (filter p cs) (omega (arith, le)) (λ m xm mc. gaps p x c m gap (λ cm. ap p (equal m c cm mc) ∙ e) xm) rest

-- the members of an ascending list that pass a test, where every number that passes it is a member
pub listing_filter : (p : ℕ → Bool) (x : ℕ) (cs : List ℕ) → Ascends x cs → ((m : ℕ) → x ≤ m → NotIn m cs → p m ≡ false) → IsListing p x (filter p cs)
listing_filter p x [] a h = λ m xm. h m xm tt
listing_filter p x (c ∷ cs) a h =
    filter_step (p c) p x c cs refl a.0
    (λ m xm mc. h m xm ((λ e. absurd (omega (arith, e, mc))), below_all (suc c) m cs a.1 (omega (arith, mc))))
    (listing_filter p (suc c) cs a.1 (λ m cm n. h m (omega (arith, cm, a.0)) ((λ e. absurd (omega (arith, e, cm))), n)))

-- the first number that passes is one
pub first_one : (p : ℕ → Bool) (x n m : ℕ) → x ≤ n → x ≤ m → ((k : ℕ) → x ≤ k → k < n → p k ≡ false) → ((k : ℕ) → x ≤ k → k < m → p k ≡ false) → p n ≡ true → p m ≡ true → n ≡ m
first_one p x n m xn xm gn gm pn pm =
    elim (cases_lt n m) [
      | inl lt ↦ absurd (true≢false (sym pn ∙ gm n xn lt))
      | inr le ↦ elim (cases_lt m n) [ inl lt ↦ absurd (true≢false (sym pm ∙ gn m xm lt)) | inr ge ↦ omega (arith, le, ge) ]
    ]

-- there is but one such list
pub listing_one : (p : ℕ → Bool) (x : ℕ) (ns ms : List ℕ) → IsListing p x ns → IsListing p x ms → ns ≡ ms
listing_one p x [] [] k l = refl
listing_one p x [] (m ∷ ms) k l = absurd (true≢false (sym l.2 ∙ k m l.0))
listing_one p x (n ∷ ns) [] k l = absurd (true≢false (sym k.2 ∙ l n k.0))
listing_one p x (n ∷ ns) (m ∷ ms) k l =
    let e : n ≡ m = first_one p x n m k.0 l.0 k.1 l.1 k.2 l.2 in
    let r : ns ≡ ms = listing_one p (suc n) ns ms k.3 (subst (λ y. IsListing p (suc y) ms) (sym e) l.3) in
    λ i. e i ∷ r i
