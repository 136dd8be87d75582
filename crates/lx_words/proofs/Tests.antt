-- Tests and numbers.
use Rattle.std.proofs.Common.{Bool, arith, false, inl, inr, nat_eq, nat_le, nat_lt, not, refl, suc, sym, true, ℕ, ◌&&◌, ◌+◌, ◌-◌, ◌<◌, ◌==◌, ◌||◌, ◌∙◌, ◌≡◌, ◌≤◌, ◌⊎◌}
use Rattle.std.specs.Int.{next_multiple_of}
use Rattle.std.specs.Prelude.{if◌then◌else◌}
use Rattle.std.proofs.lemmas.Bool.{cases_lt, true≢false}
use Rattle.std.proofs.lemmas.Bool.Decides.{nat_tests}
use Rattle.std.proofs.Common.{◌≢◌}
use Rattle.std.proofs.lemmas.Bool.{or_right, or_left, ltb-true, false_from_ne_true}

pub and_false : (b : Bool) → (b && false) ≡ false
and_false true = refl
and_false false = refl

pub eq_self : (n : ℕ) → nat_eq n n ≡ true
eq_self n = grind arith

pub true_false : {A : Type 0} → true ≡ false → A
true_false e = cc

pub true_eq : (m n : ℕ) → nat_eq m n ≡ true → m ≡ n
true_eq m n e = grind (arith, e)

pub true_less : (j k : ℕ) → nat_lt j k ≡ true → j < k
true_less j k e = grind (arith, e)

pub first_of : (x y : Bool) → (x && y) ≡ true → x ≡ true
first_of true y h = refl
first_of false y h = h

pub less_true : (j k : ℕ) → j < k → nat_lt j k ≡ true
less_true j k e = grind (arith, e)

pub true_le : (a b : ℕ) → nat_le a b ≡ true → a ≤ b
true_le a b e = grind (arith, e)

pub eq_true : (j k : ℕ) → j ≡ k → nat_eq j k ≡ true
eq_true j k e = grind (arith, e)

pub second_of : (a b : Bool) → (a && b) ≡ true → b ≡ true
second_of true b h = h
second_of false b h = absurd (cc)

pub le_true : (n m : ℕ) → n ≤ m → nat_le n m ≡ true
le_true n m h = grind (arith, nat_tests)

pub same_tests : (b c : Bool) → (b ≡ true → c ≡ true) → (c ≡ true → b ≡ true) → b ≡ c
same_tests true c h k = sym (h refl)
same_tests false true h k = let e : false ≡ true = k refl in absurd (cc)
same_tests false false h k = refl

pub not_less : (n m : ℕ) → nat_lt n m ≡ false → m ≤ n
not_less n m h = grind (arith, nat_tests, h)

pub nat_turned : (m n : ℕ) → nat_eq m n ≡ nat_eq n m
nat_turned m n = grind (arith, nat_tests)

pub false_true : {A : Type 0} → false ≡ true → A
false_true e = cc

pub or_false : (b : Bool) → (b || false) ≡ b
or_false true = refl
or_false false = refl

pub less_most : (a b c : ℕ) → a < b → b ≤ c → a < c
less_most a b c h k = omega (arith, h, k)

pub or_assoc : (a b c : Bool) → (a || (b || c)) ≡ ((a || b) || c)
or_assoc true b c = refl
or_assoc false b c = refl

pub zero_more : (n : ℕ) → n ≡ 0 + n
zero_more n = omega arith

pub below_fails : (b k : ℕ) → (b < k) → nat_eq b k ≡ false
below_fails b k l = grind (arith, l)

pub above_fails : (b k : ℕ) → k < b → nat_eq b k ≡ false
above_fails b k l = grind (arith, l)

pub either_second : (a b : Bool) → a ≡ false → (a || b) ≡ true → b ≡ true
either_second true b wrong is = absurd (cc)
either_second false b none is = is

pub with_false : (b : Bool) → b ≡ b || false
with_false true = refl
with_false false = refl

pub next_above : (x y : ℕ) → x ≤ next_multiple_of x y
next_above x y = omega arith

pub suc_same : (m n : ℕ) → suc m ≡ suc n → m ≡ n
suc_same m n e = omega (arith, e)

pub none_below : (k : ℕ) → nat_lt k 0 ≡ false
none_below k = grind arith

pub apart : (k r : ℕ) → nat_eq k r ≡ false → k ≡ r → ⊥
apart k r e s = grind (arith, e, s)

pub no_less : {A : Type 0} (a : ℕ) → a < 0 → A
no_less a h = absurd (omega (arith, h))

pub one_less : (n j : ℕ) → suc j ≡ n → n - 1 ≡ j
one_less n j e = omega (arith, e)

pub apart_turned : (n m : ℕ) → nat_eq n m ≡ false → nat_eq m n ≡ false
apart_turned n m h = grind (arith, nat_tests, h)

pub or_true : (b : Bool) → (b || true) ≡ true
or_true true = refl
or_true false = refl

pub three_true : (a b c : Bool) → a ≡ true → b ≡ true → c ≡ true → (a && b && c) ≡ true
three_true a b c p q r = rw (p, q, r) refl

pub some_below : (n : ℕ) → nat_lt 0 (suc n) ≡ true
some_below n = grind arith

pub not_at_most : (a o : ℕ) → o < a → nat_le a o ≡ false
not_at_most a o h = grind (arith, nat_tests, h)

pub equal : (m n : ℕ) → m == n ≡ true → m ≡ n
equal m n h = grind (arith, nat_tests, h)

pub equal_test : (m : ℕ) → m == m ≡ true
equal_test m = grind (arith, nat_tests)

pub both_turned : (a b : Bool) → (a && b) ≡ (b && a)
both_turned true true = refl
both_turned true false = refl
both_turned false true = refl
both_turned false false = refl

pub never : (b : Bool) → (b ≡ true → false ≡ true) → b ≡ false
never true h = sym (h refl)
never false h = refl

pub no_other : {A : Type 0} (b : Bool) → b ≡ true → not b ≡ true → A
no_other true e f = absurd (cc)
no_other false e f = absurd (cc)

pub one_down : (r n : ℕ) → suc r < suc n → r < n
one_down r n h = omega (arith, h)

pub or_turned : (a b : Bool) → (a || b) ≡ (b || a)
or_turned true true = refl
or_turned true false = refl
or_turned false true = refl
or_turned false false = refl

pub or_nothing : (a b : Bool) → b ≡ false → (a || b) ≡ a
or_nothing true b e = refl
or_nothing false b e = e

pub or_joined : (a b c : Bool) → ((a || b) || c) ≡ (a || (b || c))
or_joined true b c = refl
or_joined false b c = refl

pub or_second_false : (a b : Bool) → a || b ≡ false → b ≡ false
or_second_false true b e = cc
or_second_false false b e = e

pub not_and : (c o : Bool) → c ≡ false → o ≡ true → (not c && o) ≡ true
not_and true o e f = cc
not_and false o e f = f

pub split_if : (b : Bool) (m y : ℕ) → nat_lt m y ≡ b → (m < y) ⊎ (y ≤ m)
split_if true m y e = inl (grind (arith, nat_tests, e))
split_if false m y e = inr (grind (arith, nat_tests, e))

pub clash : (b : Bool) → b ≡ true → b ≡ false → ⊥
clash b is out = true≢false (sym is ∙ out)

pub any_step : (b rest more : Bool) → (rest ≡ true → more ≡ true) → b || rest ≡ true → b || more ≡ true
any_step true rest more f h = refl
any_step false rest more f h = f h

pub le_trans : (i a b : ℕ) → i ≤ a → a ≤ b → i ≤ b
le_trans i a b h e = omega (arith, h, e)

pub not_or : (a b : Bool) → a ≡ true → (not a || b) ≡ true → b ≡ true
not_or true b e h = h
not_or false b e h = true_false (sym e)

pub more_onto : (m n : ℕ) → m + suc n ≡ suc m + n
more_onto m n = omega arith

pub one_first : (n : ℕ) → suc n ≡ 1 + n
one_first n = omega arith

pub is_below : (y n : ℕ) → y < n → nat_le y n ≡ true
is_below y n l = grind (arith, l)

pub twice_by : (a b : Bool) → b ≡ true → (a && not b) ≡ false
twice_by true b e = rw e refl
twice_by false b e = refl

pub if_second : (b c : Bool) → c ≡ true → (if b then true else c) ≡ true
if_second true c h = refl
if_second false c h = h

pub if_neither : (b c : Bool) → (if b then true else c) ≡ true → b ≡ false → c ≡ true
if_neither true c h e = cc
if_neither false c h e = h

pub le_self : (n : ℕ) → nat_le n n ≡ true
le_self n = grind arith

pub implied : (v w : Bool) → (not v || w) ≡ true → v ≡ true → w ≡ true
implied true w e h = e
implied false w e h = cc h

pub below_other : (m n : ℕ) → m < n → (m == n) ≡ false
below_other m n lt = grind (arith, nat_tests)

pub same_test : (m n : ℕ) → m ≡ n → (m == n) ≡ true
same_test m n e = grind (arith, nat_tests)

pub below_next : (j n : ℕ) → j < n + 1 → (j < n) ⊎ (j ≡ n)
below_next j n less = elim (cases_lt j n) [
  | inl lower ↦ inl lower
  | inr most ↦ inr (omega (arith, less, most))
]

pub or_and : (a b c : Bool) → ((a || b) && c) ≡ ((a && c) || (b && c))
or_and true true true = refl
or_and true true false = refl
or_and true false true = refl
or_and true false false = refl
or_and false b c = refl

pub either : (a b c d : Bool) → (a || b) ≡ true → (a ≡ true → c ≡ true) → (b ≡ true → d ≡ true) → (c || d) ≡ true
either true b c d e f g = or_left c d (f refl)
either false b c d e f g = or_right c d (g e)

pub and_or : (a b c : Bool) → (a && (b || c)) ≡ ((a && b) || (a && c))
and_or true b c = refl
and_or false b c = refl

pub and_true : (r : Bool) → r ≡ (r && true)
and_true true = refl
and_true false = refl

pub or_swap : (a b c : Bool) → (a || (b || c)) ≡ (b || (a || c))
or_swap true true c = refl
or_swap true false c = refl
or_swap false b c = refl

pub eq_from_ne : (m n : ℕ) → m ≢ n → nat_eq m n ≡ false
eq_from_ne m n ne = grind (arith, nat_tests, ne)

pub none_left : (a b : Bool) → (a || b) ≡ false → a ≡ false
none_left false b e = refl
none_left true b e = e

pub none_right : (a b : Bool) → (a || b) ≡ false → b ≡ false
none_right false b e = e
none_right true b e = absurd (cc)

pub or_other : (a b : Bool) → (a || b) ≡ true → a ≡ false → b ≡ true
or_other false b e f = e
or_other true b e f = absurd (cc)

pub test_lost : (v x y z u : Bool) → (x ≡ true → z ≡ false) → (y ≡ true → u ≡ false) → (if v then x else y) ≡ true → (if v then z else u) ≡ false
test_lost true x y z u f g e = f e
test_lost false x y z u f g e = g e

pub not_below : (m n : ℕ) → n ≤ m → nat_lt m n ≡ false
not_below m n h = false_from_ne_true (nat_lt m n) (λ t. omega (arith, ltb-true m n t))

pub nobody_more : (p f w : Bool) → w ≡ false → p ≡ (p || (f && w))
nobody_more true f w is = refl
nobody_more false true w is = sym is
nobody_more false false w is = refl
