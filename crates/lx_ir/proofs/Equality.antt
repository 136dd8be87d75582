-- What the tests of equality say: each holds of the same two things alone.
use Rattle.std.proofs.Common.{None, Option, Some, ap, false, refl, true, ℕ, ◌&&◌, ◌≡◌}
use Rattle.std.specs.Prelude.{nat_eq}
use Rattle.std.proofs.lemmas.Bool.{and_from}
use Rattle.lx_ir.specs.Faults.{same_blank, same_constant, same_pointer, same_result, same_symbol, same_value}
use Rattle.lx_ir.specs.Lawful.{same_scalar}
use Rattle.lx_ir.specs.declared.module.Blank.{Blank}
use Rattle.lx_ir.specs.declared.module.Blank.TheVariants.{Poison, Undef, Zero}
use Rattle.lx_ir.specs.declared.module.Constant.TheVariants as constant
use Rattle.lx_ir.specs.declared.module.Constant.{Constant}
use Rattle.lx_ir.specs.declared.module.Pointer.TheVariants as pointer
use Rattle.lx_ir.specs.declared.module.Pointer.{Pointer}
use Rattle.lx_ir.specs.declared.module.Symbol.TheVariants as symbol
use Rattle.lx_ir.specs.declared.module.Symbol.{Symbol}
use Rattle.lx_ir.specs.declared.module.Value.TheVariants as value
use Rattle.lx_ir.specs.declared.module.Value.{Value}
use Rattle.lx_ir.specs.declared.types.Scalar.{Scalar}
use Rattle.lx_ir.specs.declared.types.Scalar.TheVariants.{Int, Ptr}
use Rattle.lx_words.proofs.Tests.{eq_self, false_true, first_of, second_of, true_eq}
use Rattle.lx_words.proofs.Widths.{width_is, width_itself, width_of_bits}
use Rattle.lx_words.specs.Width.{bit_count, same_width}
use Rattle.lx_words.specs.Word.{Word}
use Rattle.lx_words.specs.declared.word.Width.{Width}
use Rattle.lx_words.specs.declared.word.Width.TheVariants.{W1, W16, W32, W64, W8}

pub scalar_is : (s t : Scalar) → same_scalar s t ≡ true → s ≡ t
scalar_is (Int v) (Int w) e = ap (λ (u : Width). Int u) (width_is v w e)
scalar_is Ptr Ptr e = refl
scalar_is (Int v) Ptr e = false_true e
scalar_is Ptr (Int w) e = false_true e

pub scalar_itself : (s : Scalar) → same_scalar s s ≡ true
scalar_itself (Int v) = width_itself v
scalar_itself Ptr = refl

pub symbol_is : (s t : Symbol) → same_symbol s t ≡ true → s ≡ t
symbol_is (symbol.Function j) (symbol.Function k) e = ap (λ (n : ℕ). symbol.Function n) (true_eq j k e)
symbol_is (symbol.Global j) (symbol.Global k) e = ap (λ (n : ℕ). symbol.Global n) (true_eq j k e)
symbol_is (symbol.Function j) (symbol.Global k) e = false_true e
symbol_is (symbol.Global j) (symbol.Function k) e = false_true e

pub symbol_itself : (s : Symbol) → same_symbol s s ≡ true
symbol_itself (symbol.Function j) = eq_self j
symbol_itself (symbol.Global j) = eq_self j

pub blank_is : (a b : Blank) → same_blank a b ≡ true → a ≡ b
blank_is Undef Undef e = refl
blank_is Poison Poison e = refl
blank_is Zero Zero e = refl
blank_is _ _ e = false_true e

pub blank_itself : (b : Blank) → same_blank b b ≡ true
blank_itself Undef = refl
blank_itself Poison = refl
blank_itself Zero = refl

pub pointer_is : (p q : Pointer) → same_pointer p q ≡ true → p ≡ q
pointer_is pointer.Null pointer.Null e = refl
pointer_is (pointer.Blank b) (pointer.Blank c) e = ap (λ (x : Blank). pointer.Blank x) (blank_is b c e)
pointer_is (pointer.Number m) (pointer.Number n) e = ap (λ (x : ℕ). pointer.Number x) (true_eq m n e)
pointer_is (pointer.Symbol s m) (pointer.Symbol t n) e =
    λ j. pointer.Symbol (symbol_is s t (first_of (same_symbol s t) (nat_eq m n) e) j) (true_eq m n (second_of (same_symbol s t) (nat_eq m n) e) j)
pointer_is _ _ e = false_true e

pub pointer_itself : (p : Pointer) → same_pointer p p ≡ true
pointer_itself pointer.Null = refl
pointer_itself (pointer.Blank b) = blank_itself b
pointer_itself (pointer.Number n) = eq_self n
pointer_itself (pointer.Symbol s n) = and_from (same_symbol s s) (nat_eq n n) (symbol_itself s) (eq_self n)

pub word_of_bits : (a b : Word) → (nat_eq (bit_count a.width) (bit_count b.width) && nat_eq a.bits b.bits) ≡ true → a ≡ b
word_of_bits a b e =
    λ j. record {
      width = width_of_bits a.width b.width (first_of (nat_eq (bit_count a.width) (bit_count b.width)) (nat_eq a.bits b.bits) e) j;
      bits = true_eq a.bits b.bits (second_of (nat_eq (bit_count a.width) (bit_count b.width)) (nat_eq a.bits b.bits) e) j;
    }

pub constant_is : (c d : Constant) → same_constant c d ≡ true → c ≡ d
constant_is (constant.Number a) (constant.Number b) e = ap (λ (w : Word). constant.Number w) (word_of_bits a b e)
constant_is (constant.Truth true) (constant.Truth true) e = refl
constant_is (constant.Truth false) (constant.Truth false) e = refl
constant_is (constant.Blank a v) (constant.Blank b w) e =
    λ j. constant.Blank (blank_is a b (first_of (same_blank a b) (nat_eq (bit_count v) (bit_count w)) e) j) (width_of_bits v w (second_of (same_blank a b) (nat_eq (bit_count v) (bit_count w)) e) j)
constant_is (constant.Pointer p) (constant.Pointer q) e = ap (λ (x : Pointer). constant.Pointer x) (pointer_is p q e)
constant_is (constant.Cast p v) (constant.Cast q w) e =
    λ j. constant.Cast (pointer_is p q (first_of (same_pointer p q) (nat_eq (bit_count v) (bit_count w)) e) j) (width_of_bits v w (second_of (same_pointer p q) (nat_eq (bit_count v) (bit_count w)) e) j)
constant_is _ _ e = false_true e

pub constant_itself : (c : Constant) → same_constant c c ≡ true
constant_itself (constant.Number a) = and_from (nat_eq (bit_count a.width) (bit_count a.width)) (nat_eq a.bits a.bits) (eq_self (bit_count a.width)) (eq_self a.bits)
constant_itself (constant.Truth true) = refl
constant_itself (constant.Truth false) = refl
constant_itself (constant.Blank b w) = and_from (same_blank b b) (nat_eq (bit_count w) (bit_count w)) (blank_itself b) (eq_self (bit_count w))
constant_itself (constant.Pointer p) = pointer_itself p
constant_itself (constant.Cast p w) = and_from (same_pointer p p) (nat_eq (bit_count w) (bit_count w)) (pointer_itself p) (eq_self (bit_count w))

pub value_is : (a b : Value) → same_value a b ≡ true → a ≡ b
value_is (value.Register q) (value.Register r) e = ap (λ (n : ℕ). value.Register n) (true_eq q r e)
value_is (value.Constant c) (value.Constant d) e = ap (λ (x : Constant). value.Constant x) (constant_is c d e)
value_is (value.Register q) (value.Constant d) e = false_true e
value_is (value.Constant c) (value.Register r) e = false_true e

pub value_itself : (v : Value) → same_value v v ≡ true
value_itself (value.Register r) = eq_self r
value_itself (value.Constant c) = constant_itself c

pub result_is : (a b : Option Scalar) → same_result a b ≡ true → a ≡ b
result_is None None e = refl
result_is (Some a) (Some b) e = ap (λ (s : Scalar). Some s) (scalar_is a b e)
result_is None (Some b) e = false_true e
result_is (Some a) None e = false_true e
