-- Tests by their parts: what `true`, `false` and numbers say of them.
use Rattle.std.proofs.Common.{arith, true, ℕ, ◌≡◌, Bool, false, refl, ◌&&◌, ◌||◌, ◌<◌, ◌≤◌, sym, nat_eq, ◌+◌, nat_lt, ◌⊎◌, not, suc, ◌≢◌, max, zero, ◌-◌, min, ap, ◌%◌, ◌*◌, ◌/◌, if◌then◌else◌, ◌∙◌}
use Rattle.std.proofs.lemmas.Bool.Decides.{nat_tests}
use Rattle.lx_words.proofs.Tests.{or_joined, and_or}

pub one_more : (n : ℕ) → n + 1 ≡ suc n
one_more n = omega arith

pub ne_from_test : (m n : ℕ) → nat_eq m n ≡ false → m ≢ n
ne_from_test m n h = grind (arith, nat_tests)

pub max_one : (a b : ℕ) → a < 2 → b < 2 → nat_eq (max a b) 1 ≡ (nat_eq a 1 || nat_eq b 1)
max_one zero zero p q = refl
max_one zero (suc zero) p q = refl
max_one (suc zero) zero p q = refl
max_one (suc zero) (suc zero) p q = refl
max_one (suc (suc a)) b p q = absurd (omega arith)
max_one zero (suc (suc b)) p q = absurd (omega arith)
max_one (suc zero) (suc (suc b)) p q = absurd (omega arith)

pub or_note : (s c e r : Bool) → ((s && e) || ((s && c) || r)) ≡ ((s && (c || e)) || r)
or_note false c e r = refl
or_note true true true r = refl
or_note true true false r = refl
or_note true false true r = refl
or_note true false false r = refl

pub both_zeroed : (s a e o : Bool) → ((s && (not a || o)) && (not e || o)) ≡ (s && (not (a || e) || o))
both_zeroed false a e o = refl
both_zeroed true true true true = refl
both_zeroed true true true false = refl
both_zeroed true true false true = refl
both_zeroed true true false false = refl
both_zeroed true false true true = refl
both_zeroed true false true false = refl
both_zeroed true false false o = refl

pub and_yes : (a : Bool) → (a && true) ≡ a
and_yes true = refl
and_yes false = refl

pub chosen : (b rest : Bool) → b ≡ true → elim b [ false ↦ false | true ↦ rest ] ≡ rest
chosen true rest is = refl
chosen false rest is = cc

pub not_second : (a k b : Bool) → k ≡ true → b ≡ false → (a && (not k || b)) ≡ false
not_second true true b kept none = none
not_second false true b kept none = refl
not_second a false b kept none = absurd cc

pub min_one : (a b : ℕ) → a < 2 → b < 2 → nat_eq (min a b) 1 ≡ (nat_eq a 1 && nat_eq b 1)
min_one zero zero p q = refl
min_one zero (suc zero) p q = refl
min_one (suc zero) zero p q = refl
min_one (suc zero) (suc zero) p q = refl
min_one (suc (suc a)) b p q = absurd (omega arith)
min_one zero (suc (suc b)) p q = absurd (omega arith)
min_one (suc zero) (suc (suc b)) p q = absurd (omega arith)

pub sooner_step : (s c g r : Bool) → ((s || (c && g)) || (c && r)) ≡ (s || (c && (g || r)))
sooner_step true c g r = refl
sooner_step false true g r = refl
sooner_step false false g r = refl

pub not_given : (s c e r : Bool) → e ≡ false → r ≡ ((s && (c && e)) || r)
not_given true true e r is = ap (λ (t : Bool). t || r) (sym is)
not_given true false e r is = refl
not_given false c e r is = refl

pub part_more : (part n : ℕ) → nat_lt n (part + 1) ≡ (nat_lt n part || nat_eq part n)
part_more part n = grind (arith, nat_tests)

pub byte_of : (part k : ℕ) → k < 64 → ((part * 64 + k) / 64 ≡ part) × ((part * 64 + k) % 64 ≡ k)
byte_of part k h = (omega (arith, h), omega (arith, h))

pub or_none : (s c r : Bool) → c ≡ false → r ≡ ((s && c) || r)
or_none true c r is = ap (λ (t : Bool). t || r) (sym is)
or_none false c r is = refl

pub no_more : (k o : Bool) → ((k && false) || o) ≡ o
no_more true o = refl
no_more false o = refl

pub counts_up : (b : Bool) (n : ℕ) → n ≤ (if b then suc n else n)
counts_up true n = omega arith
counts_up false n = omega arith

pub below_16 : (t : ℕ) → t < 16 → nat_lt t 16 ≡ true
below_16 t h = grind (arith, nat_tests)

pub paid_less : (fuel n l k : ℕ) → fuel ≡ suc n → 2 * fuel + l < k → 2 * n + l + 2 < k
paid_less fuel n l k e h = omega (arith, e, h)

pub or_chosen : (a n e : Bool) → a ≡ true → (a && n || not a && e) ≡ true → n ≡ true
or_chosen true true e is h = refl
or_chosen true false e is h = absurd (cc)
or_chosen false n e is h = absurd (cc)

pub not_on : (x y : Bool) → x ≡ not y → x ≡ true → y ≡ false
not_on x true e f = absurd (cc)
not_on x false e f = refl

pub not_off : (x y : Bool) → x ≡ not y → x ≡ false → y ≡ false → ⊥
not_off x true e f h = cc
not_off x false e f h = cc

pub first_step : (s fo found g r : Bool) → (fo && g) ≡ found → ((s || found) || (fo && r)) ≡ (s || (fo && (g || r)))
first_step s fo found g r is =
    or_joined s found (fo && r) ∙ ap (λ t. s || t) (ap (λ t. t || (fo && r)) (sym is) ∙ sym (and_or fo g r))
