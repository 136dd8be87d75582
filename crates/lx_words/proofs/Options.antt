-- Options and results.
use Rattle.std.proofs.Common.{Bool, Err, IfOk, None, Ok, Option, Result, Some, ap, arith, cond, false, nat_lt, option_map, refl, true, ℕ, ◌<◌, ◌∙◌, ◌≡◌, ◌≤◌}
use Rattle.std.specs.Option.{option_or}
use Rattle.std.specs.Prelude.{if◌then◌else◌, is_some}
use Rattle.std.proofs.lemmas.Bool.Decides.{nat_tests}

pub some_none : {A B : Type 0} {x : A} → ◌≡◌ {A = Option A} (Some x) None → B
some_none e = cc

pub none_some : {A B : Type 0} {x : A} → ◌≡◌ {A = Option A} None (Some x) → B
none_some e = cc

pub some_same : {A : Type 0} {x y : A} → ◌≡◌ {A = Option A} (Some x) (Some y) → x ≡ y
some_same e = cc

pub map_none : {A B : Type 0} (f : A → B) (o : Option A) → option_map f o ≡ None → o ≡ None
map_none f None e = refl
map_none f (Some a) e = cc e

pub none_or_some : {A B : Type 0} {x : A} → None ≡ Some x → B
none_or_some e = absurd (cc)

pub none_within : (i n : ℕ) → cond (nat_lt i n) (Some i) None ≡ None → n ≤ i
none_within i n h = grind (arith, nat_tests)

pub neither_some : {A : Type 0} (a b : Option A) → option_or a b ≡ None → (a ≡ None) × (b ≡ None)
neither_some None b e = (refl, e)
neither_some (Some x) b e = some_none e

pub or_some : {B : Type 0} (x rest y : Option B) (b : B) → y ≡ option_or x rest → x ≡ Some b → y ≡ Some b
or_some x rest y b e h = e ∙ ap (λ z. option_or z rest) h

pub rest_of : (b : Bool) (j : ℕ) (o : Option ℕ) → (if b then Some j else o) ≡ None → (b ≡ false) × (o ≡ None)
rest_of true j o h = absurd (cc h)
rest_of false j o h = (refl, h)

pub first_none : {B : Type 0} (x y : Option B) → option_or x y ≡ None → x ≡ None
first_none None y h = refl
first_none (Some b) y h = absurd (cc)

pub rest_none : {B : Type 0} (x y : Option B) → option_or x y ≡ None → y ≡ None
rest_none None y h = h
rest_none (Some b) y h = absurd (cc)

pub within_by : (b : Bool) (n m k : ℕ) → nat_lt n m ≡ b → cond b (Some n) None ≡ Some k → k < m
within_by true n m k h e = let is : n ≡ k = cc in grind (arith, nat_tests, h, is)
within_by false n m k h e = absurd (cc)

pub if_ok : {A E : Type 0} {P Q : A → Type 0} (r : Result A E) → ((a : A) → P a → Q a) → IfOk r P → IfOk r Q
if_ok (Ok a) f is = f a is
if_ok (Err e) f is = is

pub option_or_assoc : {B : Type 0} (x y z : Option B) → option_or x (option_or y z) ≡ option_or (option_or x y) z
option_or_assoc None y z = refl
option_or_assoc (Some b) y z = refl

pub map_some : {A B : Type 0} (f : A → B) (o : Option A) (y : B) → option_map f o ≡ Some y → (x : A) × (o ≡ Some x) × (f x ≡ y)
map_some f (Some x) y e = (x, refl, cc)
map_some f None y e = absurd (cc e)

pub no_value : {A : Type 0} (o : Option A) → is_some o ≡ false → o ≡ None
no_value None e = refl
no_value (Some x) e = cc

pub by_test : (b : Bool) (n k : ℕ) → cond b (Some n) None ≡ Some k → n ≡ k
by_test true n k e = cc
by_test false n k e = absurd (cc)

pub failed : (b : Bool) (n : ℕ) → cond b (Some n) None ≡ None → b ≡ false
failed true n e = absurd (cc)
failed false n e = refl

pub some_is : (m n : ℕ) → Some m ≡ Some n → m ≡ n
some_is m n is = cc
