-- The order of atoms is that of three numbers, the first of them counting most.
use Rattle.std.proofs.Common.{◌≡◌, ◌⊎◌, ℕ, ◌<◌, ◌≤◌, true, false, ap, refl, arith}
use Rattle.std.proofs.lemmas.Bool.Decides.{nat_tests}
use Rattle.lx_caps.specs.declared.Atom.{Atom}
use Rattle.lx_caps.specs.declared.Atom.TheVariants.{Byte, Call, Ref}
use Rattle.lx_caps.specs.Order.{is_before}

-- bytes, calls, references
abbrev kind : Atom → ℕ
kind (Byte a) = 0
kind (Call a) = 1
kind (Ref t a) = 2

abbrev high : Atom → ℕ
high (Byte a) = 0
high (Call a) = 0
high (Ref t a) = t

abbrev low : Atom → ℕ
low (Byte a) = a
low (Call a) = a
low (Ref t a) = a

-- three numbers are at most three others
abbrev AtMost : ℕ → ℕ → ℕ → ℕ → ℕ → ℕ → Type 0
AtMost a b c d e f = (a < d) ⊎ ((a ≡ d) × ((b < e) ⊎ ((b ≡ e) × (c ≤ f))))

-- three numbers are below three others
abbrev Below : ℕ → ℕ → ℕ → ℕ → ℕ → ℕ → Type 0
Below a b c d e f = (a < d) ⊎ ((a ≡ d) × ((b < e) ⊎ ((b ≡ e) × (c < f))))

AtMost-trans : (a b c d e f g h i : ℕ) → AtMost a b c d e f → AtMost d e f g h i → AtMost a b c g h i
AtMost-trans a b c d e f g h i one two = grind arith

Below-to_AtMost : (a b c d e f : ℕ) → Below a b c d e f → AtMost a b c d e f
Below-to_AtMost a b c d e f one = grind arith

before-Below : (x y : Atom) → is_before x y ≡ true → Below (kind x) (high x) (low x) (kind y) (high y) (low y)
before-Below (Byte a) (Byte b) is = grind (arith, nat_tests)
before-Below (Byte a) (Call b) is = grind arith
before-Below (Byte a) (Ref u b) is = grind arith
before-Below (Call a) (Byte b) is = cc
before-Below (Call a) (Call b) is = grind (arith, nat_tests)
before-Below (Call a) (Ref u b) is = grind arith
before-Below (Ref t a) (Byte b) is = cc
before-Below (Ref t a) (Call b) is = cc
before-Below (Ref t a) (Ref u b) is = grind (arith, nat_tests)

not_before-AtMost : (x y : Atom) → is_before x y ≡ false → AtMost (kind y) (high y) (low y) (kind x) (high x) (low x)
not_before-AtMost (Byte a) (Byte b) is = grind (arith, nat_tests)
not_before-AtMost (Byte a) (Call b) is = cc
not_before-AtMost (Byte a) (Ref u b) is = cc
not_before-AtMost (Call a) (Byte b) is = grind arith
not_before-AtMost (Call a) (Call b) is = grind (arith, nat_tests)
not_before-AtMost (Call a) (Ref u b) is = cc
not_before-AtMost (Ref t a) (Byte b) is = grind arith
not_before-AtMost (Ref t a) (Call b) is = grind arith
not_before-AtMost (Ref t a) (Ref u b) is = grind (arith, nat_tests)

AtMost-not_before : (x y : Atom) → AtMost (kind y) (high y) (low y) (kind x) (high x) (low x) → is_before x y ≡ false
AtMost-not_before (Byte a) (Byte b) is = grind (arith, nat_tests)
AtMost-not_before (Byte a) (Call b) is = grind arith
AtMost-not_before (Byte a) (Ref u b) is = grind arith
AtMost-not_before (Call a) (Byte b) is = refl
AtMost-not_before (Call a) (Call b) is = grind (arith, nat_tests)
AtMost-not_before (Call a) (Ref u b) is = grind arith
AtMost-not_before (Ref t a) (Byte b) is = refl
AtMost-not_before (Ref t a) (Call b) is = refl
AtMost-not_before (Ref t a) (Ref u b) is = grind (arith, nat_tests)

pub not_before_itself : (x : Atom) → is_before x x ≡ false
not_before_itself (Byte a) = grind (arith, nat_tests)
not_before_itself (Call a) = grind (arith, nat_tests)
not_before_itself (Ref t a) = grind (arith, nat_tests)

-- x ≤ y and y ≤ z give x ≤ z
pub at_most-trans : (x y z : Atom) → is_before y x ≡ false → is_before z y ≡ false → is_before z x ≡ false
at_most-trans x y z xy yz =
    AtMost-not_before z x
    (AtMost-trans (kind x) (high x) (low x) (kind y) (high y) (low y) (kind z) (high z) (low z) (not_before-AtMost y x xy) (not_before-AtMost z y yz))

-- x < y and x ≤ y agree
pub before-at_most : (x y : Atom) → is_before x y ≡ true → is_before y x ≡ false
before-at_most x y is =
    AtMost-not_before y x (Below-to_AtMost (kind x) (high x) (low x) (kind y) (high y) (low y) (before-Below x y is))

-- two atoms of which neither comes first are the same
pub before_one_way : (x y : Atom) → (is_before x y ≡ true → ⊥) → (is_before y x ≡ true → ⊥) → x ≡ y
before_one_way (Byte a) (Byte b) left right = let e : a ≡ b = grind (arith, nat_tests) in ap Byte e
before_one_way (Byte a) (Call b) left right = absurd (left refl)
before_one_way (Byte a) (Ref u b) left right = absurd (left refl)
before_one_way (Call a) (Byte b) left right = absurd (right refl)
before_one_way (Call a) (Call b) left right = let e : a ≡ b = grind (arith, nat_tests) in ap Call e
before_one_way (Call a) (Ref u b) left right = absurd (left refl)
before_one_way (Ref t a) (Byte b) left right = absurd (right refl)
before_one_way (Ref t a) (Call b) left right = absurd (right refl)
before_one_way (Ref t a) (Ref u b) left right =
    let e : t ≡ u = grind (arith, nat_tests) in
    let f : a ≡ b = grind (arith, nat_tests) in
    cc
