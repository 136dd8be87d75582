-- Parts that are compared as the same are the same, and each is the same as itself.
use Rattle.std.proofs.Common.{◌≡◌, ℕ, Bool, true, ◌&&◌, Option, List, [], ◌∷◌, nat_eq, refl, ap}
use Rattle.std.specs.Prelude.{bytes_eq}
use Rattle.std.proofs.lemmas.Bool.{and_from}
use Rattle.lx_words.specs.declared.word.BinOp.{BinOp}
use Rattle.lx_words.specs.declared.word.BinOp.TheVariants as binop
use Rattle.lx_words.specs.declared.word.Pred.{Pred}
use Rattle.lx_words.specs.declared.word.Pred.TheVariants as predicate
use Rattle.lx_ir.specs.declared.types.Scalar.{Scalar}
use Rattle.lx_ir.specs.declared.module.Symbol.{Symbol}
use Rattle.lx_ir.specs.declared.module.Value.{Value}
use Rattle.lx_ir.specs.declared.instr.Argument.{Argument}
use Rattle.lx_ir.specs.declared.instr.Callee.{Callee}
use Rattle.lx_ir.specs.declared.instr.Callee.TheVariants as callee
use Rattle.lx_ir.specs.declared.instr.Conversion.{Conversion}
use Rattle.lx_ir.specs.declared.instr.Conversion.TheVariants as conversion
use Rattle.lx_ir.specs.declared.instr.UnaryOp.{UnaryOp}
use Rattle.lx_ir.specs.declared.instr.Edge.{Edge}
use Rattle.lx_ir.specs.declared.instr.SwitchCase.{SwitchCase}
use Rattle.lx_ir.specs.declared.instr.Op.{Op}
use Rattle.lx_ir.specs.declared.instr.Op.TheVariants as op
use Rattle.lx_ir.specs.IrType.{IrType, One, Array, Struct, Packed, Named, IrTypes, none, also}
use Rattle.lx_ir.specs.Lawful.{same_scalar}
use Rattle.lx_ir.specs.Text.{conversion_word, unary_word, unary_of_word}
use Rattle.lx_ir.specs.Faults.{same_symbol, same_value, same_result, same_type, same_types}
use Rattle.lx_image_texts.specs.ImageFaults.{same_narrow, same_register, same_argument}
use Rattle.lx_words.proofs.Lists.{same_bytes, bytes_itself}
use Rattle.lx_words.proofs.Tests.{false_true, first_of, second_of, true_eq, eq_self}
use Rattle.lx_ir.specs.declared.types.Scalar.TheVariants.{Int, Ptr}
use Rattle.lx_ir.proofs.Equality.{scalar_is, scalar_itself, symbol_is, symbol_itself, value_is, value_itself, result_is}
use Rattle.lx_image_texts.proofs.Comparing.{register_itself, result_itself, returned_itself, argument_is, argument_itself, register_is, returned_is}
use Rattle.lx_image_texts.proofs.MarkedCode.{narrow_is, narrow_itself}
use Rattle.lx_same_texts.specs.Same.{same_lists, operator_number, same_operator, predicate_number, same_predicate, same_conversion, same_unary, same_target, same_edge, same_case, same_binary, same_comparison, same_convert, same_unary_op, same_select, same_phi, same_alloca, same_load, same_store, same_element_pointer, same_call, same_copy, same_fill, same_return, same_jump, same_branch, same_switch, same_unreachable, same_guard, same_check, same_enter, same_pre, same_post, same_leave, same_op}

pub lists_are : {A : Type 0} (same : A → A → Bool) → ((x y : A) → same x y ≡ true → x ≡ y) → (xs ys : List A) → same_lists same xs ys ≡ true → xs ≡ ys
lists_are same law [] [] e = refl
lists_are same law (x ∷ xs) (y ∷ ys) e = λ j. law x y (first_of (same x y) (same_lists same xs ys) e) j ∷ lists_are same law xs ys (second_of (same x y) (same_lists same xs ys) e) j
lists_are same law [] (y ∷ ys) e = false_true e
lists_are same law (x ∷ xs) [] e = false_true e

pub lists_themselves : {A : Type 0} (same : A → A → Bool) → ((x : A) → same x x ≡ true) → (xs : List A) → same_lists same xs xs ≡ true
lists_themselves same law [] = refl
lists_themselves same law (x ∷ xs) = and_from (same x x) (same_lists same xs xs) (law x) (lists_themselves same law xs)

-- words

operator_is : (a b : BinOp) → same_operator a b ≡ true → a ≡ b
operator_is binop.Add binop.Add e = refl
operator_is binop.Sub binop.Sub e = refl
operator_is binop.Mul binop.Mul e = refl
operator_is binop.UDiv binop.UDiv e = refl
operator_is binop.SDiv binop.SDiv e = refl
operator_is binop.URem binop.URem e = refl
operator_is binop.SRem binop.SRem e = refl
operator_is binop.And binop.And e = refl
operator_is binop.Or binop.Or e = refl
operator_is binop.Xor binop.Xor e = refl
operator_is binop.Shl binop.Shl e = refl
operator_is binop.LShr binop.LShr e = refl
operator_is binop.AShr binop.AShr e = refl
operator_is _ _ e = false_true e

predicate_is : (a b : Pred) → same_predicate a b ≡ true → a ≡ b
predicate_is predicate.Eq predicate.Eq e = refl
predicate_is predicate.Ne predicate.Ne e = refl
predicate_is predicate.Ugt predicate.Ugt e = refl
predicate_is predicate.Uge predicate.Uge e = refl
predicate_is predicate.Ult predicate.Ult e = refl
predicate_is predicate.Ule predicate.Ule e = refl
predicate_is predicate.Sgt predicate.Sgt e = refl
predicate_is predicate.Sge predicate.Sge e = refl
predicate_is predicate.Slt predicate.Slt e = refl
predicate_is predicate.Sle predicate.Sle e = refl
predicate_is _ _ e = false_true e

conversion_is : (a b : Conversion) → same_conversion a b ≡ true → a ≡ b
conversion_is conversion.Trunc conversion.Trunc e = refl
conversion_is conversion.ZExt conversion.ZExt e = refl
conversion_is conversion.SExt conversion.SExt e = refl
conversion_is conversion.PtrToInt conversion.PtrToInt e = refl
conversion_is conversion.IntToPtr conversion.IntToPtr e = refl
conversion_is _ _ e = false_true e

-- operands

target_is : (c d : Callee) → same_target c d ≡ true → c ≡ d
target_is (callee.Symbol s) (callee.Symbol t) e = ap (λ (x : Symbol). callee.Symbol x) (symbol_is s t e)
target_is (callee.Register r) (callee.Register s) e = ap (λ (x : ℕ). callee.Register x) (true_eq r s e)
target_is (callee.Symbol s) (callee.Register r) e = false_true e
target_is (callee.Register r) (callee.Symbol s) e = false_true e

target_itself : (c : Callee) → same_target c c ≡ true
target_itself (callee.Symbol s) = symbol_itself s
target_itself (callee.Register r) = eq_self r

edge_is : (a b : Edge) → same_edge a b ≡ true → a ≡ b
edge_is a b e =
    let e1 = first_of (same_value a.value b.value) (bytes_eq a.label b.label) e in
    λ j. record { value = value_is a.value b.value e1 j; label = same_bytes a.label b.label (second_of (same_value a.value b.value) (bytes_eq a.label b.label) e) j }

edge_itself : (a : Edge) → same_edge a a ≡ true
edge_itself a = (and_from (same_value a.value a.value) (bytes_eq a.label a.label) (value_itself a.value) (bytes_itself a.label))

case_is : (a b : SwitchCase) → same_case a b ≡ true → a ≡ b
case_is a b e =
    let e1 = first_of (same_value a.value b.value) (bytes_eq a.label b.label) e in
    λ j. record { value = value_is a.value b.value e1 j; label = same_bytes a.label b.label (second_of (same_value a.value b.value) (bytes_eq a.label b.label) e) j }

case_itself : (a : SwitchCase) → same_case a a ≡ true
case_itself a = (and_from (same_value a.value a.value) (bytes_eq a.label a.label) (value_itself a.value) (bytes_itself a.label))

-- types

mutual
  pub type_is : (s t : IrType) → same_type s t ≡ true → s ≡ t
  type_is (One s) (One t) e = ap One (scalar_is s t e)
  type_is (Array m s) (Array n t) e = λ j. Array (true_eq m n (first_of (nat_eq m n) (same_type s t) e) j) (type_is s t (second_of (nat_eq m n) (same_type s t) e) j)
  type_is (Struct ss) (Struct ts) e = ap Struct (types_are ss ts e)
  type_is (Packed ss) (Packed ts) e = ap Packed (types_are ss ts e)
  type_is (Named m) (Named n) e = ap Named (true_eq m n e)
  type_is _ _ e = false_true e

  pub types_are : (ss ts : IrTypes) → same_types ss ts ≡ true → ss ≡ ts
  types_are none none e = refl
  types_are (also s ss) (also t ts) e = λ j. also (type_is s t (first_of (same_type s t) (same_types ss ts) e) j) (types_are ss ts (second_of (same_type s t) (same_types ss ts) e) j)
  types_are none (also t ts) e = false_true e
  types_are (also s ss) none e = false_true e

mutual
  pub type_itself : (s : IrType) → same_type s s ≡ true
  type_itself (One s) = scalar_itself s
  type_itself (Array n t) = and_from (nat_eq n n) (same_type t t) (eq_self n) (type_itself t)
  type_itself (Struct ts) = types_themselves ts
  type_itself (Packed ts) = types_themselves ts
  type_itself (Named n) = eq_self n

  pub types_themselves : (ss : IrTypes) → same_types ss ss ≡ true
  types_themselves none = refl
  types_themselves (also s ss) = and_from (same_type s s) (same_types ss ss) (type_itself s) (types_themselves ss)

-- instructions

binary_is : (a : ℕ) (b : BinOp) (c : Scalar) (d : Value) (f : Value) (o : Op) → same_binary (op.Binary a b c d f) o ≡ true → op.Binary a b c d f ≡ o
binary_is a b c d f (op.Binary p q r s t) e =
    let e4 = first_of (nat_eq a p && same_operator b q && same_scalar c r && same_value d s) (same_value f t) e in
    let e3 = first_of (nat_eq a p && same_operator b q && same_scalar c r) (same_value d s) e4 in
    let e2 = first_of (nat_eq a p && same_operator b q) (same_scalar c r) e3 in
    let e1 = first_of (nat_eq a p) (same_operator b q) e2 in
    λ j. op.Binary (true_eq a p e1 j) (operator_is b q (second_of (nat_eq a p) (same_operator b q) e2) j) (scalar_is c r (second_of (nat_eq a p && same_operator b q) (same_scalar c r) e3) j) (value_is d s (second_of (nat_eq a p && same_operator b q && same_scalar c r) (same_value d s) e4) j) (value_is f t (second_of (nat_eq a p && same_operator b q && same_scalar c r && same_value d s) (same_value f t) e) j)
binary_is _ _ _ _ _ _ e = false_true e

comparison_is : (a : ℕ) (b : Pred) (c : Scalar) (d : Value) (f : Value) (o : Op) → same_comparison (op.Compare a b c d f) o ≡ true → op.Compare a b c d f ≡ o
comparison_is a b c d f (op.Compare p q r s t) e =
    let e4 = first_of (nat_eq a p && same_predicate b q && same_scalar c r && same_value d s) (same_value f t) e in
    let e3 = first_of (nat_eq a p && same_predicate b q && same_scalar c r) (same_value d s) e4 in
    let e2 = first_of (nat_eq a p && same_predicate b q) (same_scalar c r) e3 in
    let e1 = first_of (nat_eq a p) (same_predicate b q) e2 in
    λ j. op.Compare (true_eq a p e1 j) (predicate_is b q (second_of (nat_eq a p) (same_predicate b q) e2) j) (scalar_is c r (second_of (nat_eq a p && same_predicate b q) (same_scalar c r) e3) j) (value_is d s (second_of (nat_eq a p && same_predicate b q && same_scalar c r) (same_value d s) e4) j) (value_is f t (second_of (nat_eq a p && same_predicate b q && same_scalar c r && same_value d s) (same_value f t) e) j)
comparison_is _ _ _ _ _ _ e = false_true e

convert_is : (a : ℕ) (b : Conversion) (c : Scalar) (d : Value) (f : Scalar) (o : Op) → same_convert (op.Convert a b c d f) o ≡ true → op.Convert a b c d f ≡ o
convert_is a b c d f (op.Convert p q r s t) e =
    let e4 = first_of (nat_eq a p && same_conversion b q && same_scalar c r && same_value d s) (same_scalar f t) e in
    let e3 = first_of (nat_eq a p && same_conversion b q && same_scalar c r) (same_value d s) e4 in
    let e2 = first_of (nat_eq a p && same_conversion b q) (same_scalar c r) e3 in
    let e1 = first_of (nat_eq a p) (same_conversion b q) e2 in
    λ j. op.Convert (true_eq a p e1 j) (conversion_is b q (second_of (nat_eq a p) (same_conversion b q) e2) j) (scalar_is c r (second_of (nat_eq a p && same_conversion b q) (same_scalar c r) e3) j) (value_is d s (second_of (nat_eq a p && same_conversion b q && same_scalar c r) (same_value d s) e4) j) (scalar_is f t (second_of (nat_eq a p && same_conversion b q && same_scalar c r && same_value d s) (same_scalar f t) e) j)
convert_is _ _ _ _ _ _ e = false_true e

unary_op_is : (a : ℕ) (b : UnaryOp) (c : Scalar) (d : Value) (o : Op) → same_unary_op (op.Unary a b c d) o ≡ true → op.Unary a b c d ≡ o
unary_op_is a b c d (op.Unary p q r s) e =
    let e3 = first_of (nat_eq a p && same_unary b q && same_scalar c r) (same_value d s) e in
    let e2 = first_of (nat_eq a p && same_unary b q) (same_scalar c r) e3 in
    let e1 = first_of (nat_eq a p) (same_unary b q) e2 in
    λ j. op.Unary (true_eq a p e1 j) (unary_of_word b q (second_of (nat_eq a p) (same_unary b q) e2) j) (scalar_is c r (second_of (nat_eq a p && same_unary b q) (same_scalar c r) e3) j) (value_is d s (second_of (nat_eq a p && same_unary b q && same_scalar c r) (same_value d s) e) j)
unary_op_is _ _ _ _ _ e = false_true e

select_is : (a : ℕ) (b : Value) (c : Scalar) (d : Value) (f : Value) (o : Op) → same_select (op.Select a b c d f) o ≡ true → op.Select a b c d f ≡ o
select_is a b c d f (op.Select p q r s t) e =
    let e4 = first_of (nat_eq a p && same_value b q && same_scalar c r && same_value d s) (same_value f t) e in
    let e3 = first_of (nat_eq a p && same_value b q && same_scalar c r) (same_value d s) e4 in
    let e2 = first_of (nat_eq a p && same_value b q) (same_scalar c r) e3 in
    let e1 = first_of (nat_eq a p) (same_value b q) e2 in
    λ j. op.Select (true_eq a p e1 j) (value_is b q (second_of (nat_eq a p) (same_value b q) e2) j) (scalar_is c r (second_of (nat_eq a p && same_value b q) (same_scalar c r) e3) j) (value_is d s (second_of (nat_eq a p && same_value b q && same_scalar c r) (same_value d s) e4) j) (value_is f t (second_of (nat_eq a p && same_value b q && same_scalar c r && same_value d s) (same_value f t) e) j)
select_is _ _ _ _ _ _ e = false_true e

phi_is : (a : ℕ) (b : Scalar) (c : List Edge) (o : Op) → same_phi (op.Phi a b c) o ≡ true → op.Phi a b c ≡ o
phi_is a b c (op.Phi p q r) e =
    let e2 = first_of (nat_eq a p && same_scalar b q) (same_lists same_edge c r) e in
    let e1 = first_of (nat_eq a p) (same_scalar b q) e2 in
    λ j. op.Phi (true_eq a p e1 j) (scalar_is b q (second_of (nat_eq a p) (same_scalar b q) e2) j) (lists_are same_edge edge_is c r (second_of (nat_eq a p && same_scalar b q) (same_lists same_edge c r) e) j)
phi_is _ _ _ _ e = false_true e

alloca_is : (a : ℕ) (b : IrType) (o : Op) → same_alloca (op.Alloca a b) o ≡ true → op.Alloca a b ≡ o
alloca_is a b (op.Alloca p q) e =
    let e1 = first_of (nat_eq a p) (same_type b q) e in
    λ j. op.Alloca (true_eq a p e1 j) (type_is b q (second_of (nat_eq a p) (same_type b q) e) j)
alloca_is _ _ _ e = false_true e

load_is : (a : ℕ) (b : Scalar) (c : Value) (o : Op) → same_load (op.Load a b c) o ≡ true → op.Load a b c ≡ o
load_is a b c (op.Load p q r) e =
    let e2 = first_of (nat_eq a p && same_scalar b q) (same_value c r) e in
    let e1 = first_of (nat_eq a p) (same_scalar b q) e2 in
    λ j. op.Load (true_eq a p e1 j) (scalar_is b q (second_of (nat_eq a p) (same_scalar b q) e2) j) (value_is c r (second_of (nat_eq a p && same_scalar b q) (same_value c r) e) j)
load_is _ _ _ _ e = false_true e

store_is : (a : Scalar) (b : Value) (c : Value) (o : Op) → same_store (op.Store a b c) o ≡ true → op.Store a b c ≡ o
store_is a b c (op.Store p q r) e =
    let e2 = first_of (same_scalar a p && same_value b q) (same_value c r) e in
    let e1 = first_of (same_scalar a p) (same_value b q) e2 in
    λ j. op.Store (scalar_is a p e1 j) (value_is b q (second_of (same_scalar a p) (same_value b q) e2) j) (value_is c r (second_of (same_scalar a p && same_value b q) (same_value c r) e) j)
store_is _ _ _ _ e = false_true e

element_pointer_is : (a : ℕ) (b : IrType) (c : Value) (d : List Argument) (o : Op) → same_element_pointer (op.GetElementPtr a b c d) o ≡ true → op.GetElementPtr a b c d ≡ o
element_pointer_is a b c d (op.GetElementPtr p q r s) e =
    let e3 = first_of (nat_eq a p && same_type b q && same_value c r) (same_lists same_argument d s) e in
    let e2 = first_of (nat_eq a p && same_type b q) (same_value c r) e3 in
    let e1 = first_of (nat_eq a p) (same_type b q) e2 in
    λ j. op.GetElementPtr (true_eq a p e1 j) (type_is b q (second_of (nat_eq a p) (same_type b q) e2) j) (value_is c r (second_of (nat_eq a p && same_type b q) (same_value c r) e3) j) (lists_are same_argument argument_is d s (second_of (nat_eq a p && same_type b q && same_value c r) (same_lists same_argument d s) e) j)
element_pointer_is _ _ _ _ _ e = false_true e

call_is : (a : Option ℕ) (b : Option Scalar) (c : Callee) (d : List Argument) (o : Op) → same_call (op.Call a b c d) o ≡ true → op.Call a b c d ≡ o
call_is a b c d (op.Call p q r s) e =
    let e3 = first_of (same_register a p && same_result b q && same_target c r) (same_lists same_argument d s) e in
    let e2 = first_of (same_register a p && same_result b q) (same_target c r) e3 in
    let e1 = first_of (same_register a p) (same_result b q) e2 in
    λ j. op.Call (register_is a p e1 j) (result_is b q (second_of (same_register a p) (same_result b q) e2) j) (target_is c r (second_of (same_register a p && same_result b q) (same_target c r) e3) j) (lists_are same_argument argument_is d s (second_of (same_register a p && same_result b q && same_target c r) (same_lists same_argument d s) e) j)
call_is _ _ _ _ _ e = false_true e

copy_is : (a : Bool) (b : Value) (c : Value) (d : Argument) (o : Op) → same_copy (op.CopyBlock a b c d) o ≡ true → op.CopyBlock a b c d ≡ o
copy_is a b c d (op.CopyBlock p q r s) e =
    let e3 = first_of (same_narrow a p && same_value b q && same_value c r) (same_argument d s) e in
    let e2 = first_of (same_narrow a p && same_value b q) (same_value c r) e3 in
    let e1 = first_of (same_narrow a p) (same_value b q) e2 in
    λ j. op.CopyBlock (narrow_is a p e1 j) (value_is b q (second_of (same_narrow a p) (same_value b q) e2) j) (value_is c r (second_of (same_narrow a p && same_value b q) (same_value c r) e3) j) (argument_is d s (second_of (same_narrow a p && same_value b q && same_value c r) (same_argument d s) e) j)
copy_is _ _ _ _ _ e = false_true e

fill_is : (a : Value) (b : Value) (c : Argument) (o : Op) → same_fill (op.FillBlock a b c) o ≡ true → op.FillBlock a b c ≡ o
fill_is a b c (op.FillBlock p q r) e =
    let e2 = first_of (same_value a p && same_value b q) (same_argument c r) e in
    let e1 = first_of (same_value a p) (same_value b q) e2 in
    λ j. op.FillBlock (value_is a p e1 j) (value_is b q (second_of (same_value a p) (same_value b q) e2) j) (argument_is c r (second_of (same_value a p && same_value b q) (same_argument c r) e) j)
fill_is _ _ _ _ e = false_true e

return_is : (a : Option Argument) (o : Op) → same_return (op.Ret a) o ≡ true → op.Ret a ≡ o
return_is a (op.Ret p) e =
    λ j. op.Ret (returned_is a p e j)
return_is _ _ e = false_true e

jump_is : (a : List ℕ) (o : Op) → same_jump (op.Jump a) o ≡ true → op.Jump a ≡ o
jump_is a (op.Jump p) e =
    λ j. op.Jump (same_bytes a p e j)
jump_is _ _ e = false_true e

branch_is : (a : Value) (b : List ℕ) (c : List ℕ) (o : Op) → same_branch (op.Branch a b c) o ≡ true → op.Branch a b c ≡ o
branch_is a b c (op.Branch p q r) e =
    let e2 = first_of (same_value a p && bytes_eq b q) (bytes_eq c r) e in
    let e1 = first_of (same_value a p) (bytes_eq b q) e2 in
    λ j. op.Branch (value_is a p e1 j) (same_bytes b q (second_of (same_value a p) (bytes_eq b q) e2) j) (same_bytes c r (second_of (same_value a p && bytes_eq b q) (bytes_eq c r) e) j)
branch_is _ _ _ _ e = false_true e

switch_is : (a : Scalar) (b : Value) (c : List ℕ) (d : List SwitchCase) (o : Op) → same_switch (op.Switch a b c d) o ≡ true → op.Switch a b c d ≡ o
switch_is a b c d (op.Switch p q r s) e =
    let e3 = first_of (same_scalar a p && same_value b q && bytes_eq c r) (same_lists same_case d s) e in
    let e2 = first_of (same_scalar a p && same_value b q) (bytes_eq c r) e3 in
    let e1 = first_of (same_scalar a p) (same_value b q) e2 in
    λ j. op.Switch (scalar_is a p e1 j) (value_is b q (second_of (same_scalar a p) (same_value b q) e2) j) (same_bytes c r (second_of (same_scalar a p && same_value b q) (bytes_eq c r) e3) j) (lists_are same_case case_is d s (second_of (same_scalar a p && same_value b q && bytes_eq c r) (same_lists same_case d s) e) j)
switch_is _ _ _ _ _ e = false_true e

unreachable_is : (o : Op) → same_unreachable op.Unreachable o ≡ true → op.Unreachable ≡ o
unreachable_is op.Unreachable e = refl
unreachable_is _ e = false_true e

guard_is : (a : Value) (b : Value) (c : Bool) (o : Op) → same_guard (op.Guard a b c) o ≡ true → op.Guard a b c ≡ o
guard_is a b c (op.Guard p q r) e =
    let e2 = first_of (same_value a p && same_value b q) (same_narrow c r) e in
    let e1 = first_of (same_value a p) (same_value b q) e2 in
    λ j. op.Guard (value_is a p e1 j) (value_is b q (second_of (same_value a p) (same_value b q) e2) j) (narrow_is c r (second_of (same_value a p && same_value b q) (same_narrow c r) e) j)
guard_is _ _ _ _ e = false_true e

check_is : (a : Value) (o : Op) → same_check (op.Check a) o ≡ true → op.Check a ≡ o
check_is a (op.Check p) e =
    λ j. op.Check (value_is a p e j)
check_is _ _ e = false_true e

enter_is : (a : Symbol) (o : Op) → same_enter (op.Enter a) o ≡ true → op.Enter a ≡ o
enter_is a (op.Enter p) e =
    λ j. op.Enter (symbol_is a p e j)
enter_is _ _ e = false_true e

pre_is : (a : Symbol) (b : ℕ) (o : Op) → same_pre (op.Pre a b) o ≡ true → op.Pre a b ≡ o
pre_is a b (op.Pre p q) e =
    let e1 = first_of (same_symbol a p) (nat_eq b q) e in
    λ j. op.Pre (symbol_is a p e1 j) (true_eq b q (second_of (same_symbol a p) (nat_eq b q) e) j)
pre_is _ _ _ e = false_true e

post_is : (a : Symbol) (b : ℕ) (o : Op) → same_post (op.Post a b) o ≡ true → op.Post a b ≡ o
post_is a b (op.Post p q) e =
    let e1 = first_of (same_symbol a p) (nat_eq b q) e in
    λ j. op.Post (symbol_is a p e1 j) (true_eq b q (second_of (same_symbol a p) (nat_eq b q) e) j)
post_is _ _ _ e = false_true e

leave_is : (a : Symbol) (o : Op) → same_leave (op.Leave a) o ≡ true → op.Leave a ≡ o
leave_is a (op.Leave p) e =
    λ j. op.Leave (symbol_is a p e j)
leave_is _ _ e = false_true e

pub op_is : (o p : Op) → same_op o p ≡ true → o ≡ p
op_is (op.Binary a b c d f) p e = binary_is a b c d f p e
op_is (op.Compare a b c d f) p e = comparison_is a b c d f p e
op_is (op.Convert a b c d f) p e = convert_is a b c d f p e
op_is (op.Unary a b c d) p e = unary_op_is a b c d p e
op_is (op.Select a b c d f) p e = select_is a b c d f p e
op_is (op.Phi a b c) p e = phi_is a b c p e
op_is (op.Alloca a b) p e = alloca_is a b p e
op_is (op.Load a b c) p e = load_is a b c p e
op_is (op.Store a b c) p e = store_is a b c p e
op_is (op.GetElementPtr a b c d) p e = element_pointer_is a b c d p e
op_is (op.Call a b c d) p e = call_is a b c d p e
op_is (op.CopyBlock a b c d) p e = copy_is a b c d p e
op_is (op.FillBlock a b c) p e = fill_is a b c p e
op_is (op.Ret a) p e = return_is a p e
op_is (op.Jump a) p e = jump_is a p e
op_is (op.Branch a b c) p e = branch_is a b c p e
op_is (op.Switch a b c d) p e = switch_is a b c d p e
op_is op.Unreachable p e = unreachable_is p e
op_is (op.Guard a b c) p e = guard_is a b c p e
op_is (op.Check a) p e = check_is a p e
op_is (op.Enter a) p e = enter_is a p e
op_is (op.Pre a b) p e = pre_is a b p e
op_is (op.Post a b) p e = post_is a b p e
op_is (op.Leave a) p e = leave_is a p e

pub op_itself : (o : Op) → same_op o o ≡ true
op_itself (op.Binary a b c d f) = (and_from (nat_eq a a && same_operator b b && same_scalar c c && same_value d d) (same_value f f) (and_from (nat_eq a a && same_operator b b && same_scalar c c) (same_value d d) (and_from (nat_eq a a && same_operator b b) (same_scalar c c) (and_from (nat_eq a a) (same_operator b b) (eq_self a) (eq_self (operator_number b))) (scalar_itself c)) (value_itself d)) (value_itself f))
op_itself (op.Compare a b c d f) = (and_from (nat_eq a a && same_predicate b b && same_scalar c c && same_value d d) (same_value f f) (and_from (nat_eq a a && same_predicate b b && same_scalar c c) (same_value d d) (and_from (nat_eq a a && same_predicate b b) (same_scalar c c) (and_from (nat_eq a a) (same_predicate b b) (eq_self a) (eq_self (predicate_number b))) (scalar_itself c)) (value_itself d)) (value_itself f))
op_itself (op.Convert a b c d f) = (and_from (nat_eq a a && same_conversion b b && same_scalar c c && same_value d d) (same_scalar f f) (and_from (nat_eq a a && same_conversion b b && same_scalar c c) (same_value d d) (and_from (nat_eq a a && same_conversion b b) (same_scalar c c) (and_from (nat_eq a a) (same_conversion b b) (eq_self a) (bytes_itself (conversion_word b))) (scalar_itself c)) (value_itself d)) (scalar_itself f))
op_itself (op.Unary a b c d) = (and_from (nat_eq a a && same_unary b b && same_scalar c c) (same_value d d) (and_from (nat_eq a a && same_unary b b) (same_scalar c c) (and_from (nat_eq a a) (same_unary b b) (eq_self a) (bytes_itself (unary_word b))) (scalar_itself c)) (value_itself d))
op_itself (op.Select a b c d f) = (and_from (nat_eq a a && same_value b b && same_scalar c c && same_value d d) (same_value f f) (and_from (nat_eq a a && same_value b b && same_scalar c c) (same_value d d) (and_from (nat_eq a a && same_value b b) (same_scalar c c) (and_from (nat_eq a a) (same_value b b) (eq_self a) (value_itself b)) (scalar_itself c)) (value_itself d)) (value_itself f))
op_itself (op.Phi a b c) = (and_from (nat_eq a a && same_scalar b b) (same_lists same_edge c c) (and_from (nat_eq a a) (same_scalar b b) (eq_self a) (scalar_itself b)) (lists_themselves same_edge edge_itself c))
op_itself (op.Alloca a b) = (and_from (nat_eq a a) (same_type b b) (eq_self a) (type_itself b))
op_itself (op.Load a b c) = (and_from (nat_eq a a && same_scalar b b) (same_value c c) (and_from (nat_eq a a) (same_scalar b b) (eq_self a) (scalar_itself b)) (value_itself c))
op_itself (op.Store a b c) = (and_from (same_scalar a a && same_value b b) (same_value c c) (and_from (same_scalar a a) (same_value b b) (scalar_itself a) (value_itself b)) (value_itself c))
op_itself (op.GetElementPtr a b c d) = (and_from (nat_eq a a && same_type b b && same_value c c) (same_lists same_argument d d) (and_from (nat_eq a a && same_type b b) (same_value c c) (and_from (nat_eq a a) (same_type b b) (eq_self a) (type_itself b)) (value_itself c)) (lists_themselves same_argument argument_itself d))
op_itself (op.Call a b c d) = (and_from (same_register a a && same_result b b && same_target c c) (same_lists same_argument d d) (and_from (same_register a a && same_result b b) (same_target c c) (and_from (same_register a a) (same_result b b) (register_itself a) (result_itself b)) (target_itself c)) (lists_themselves same_argument argument_itself d))
op_itself (op.CopyBlock a b c d) = (and_from (same_narrow a a && same_value b b && same_value c c) (same_argument d d) (and_from (same_narrow a a && same_value b b) (same_value c c) (and_from (same_narrow a a) (same_value b b) (narrow_itself a) (value_itself b)) (value_itself c)) (argument_itself d))
op_itself (op.FillBlock a b c) = (and_from (same_value a a && same_value b b) (same_argument c c) (and_from (same_value a a) (same_value b b) (value_itself a) (value_itself b)) (argument_itself c))
op_itself (op.Ret a) = (returned_itself a)
op_itself (op.Jump a) = (bytes_itself a)
op_itself (op.Branch a b c) = (and_from (same_value a a && bytes_eq b b) (bytes_eq c c) (and_from (same_value a a) (bytes_eq b b) (value_itself a) (bytes_itself b)) (bytes_itself c))
op_itself (op.Switch a b c d) = (and_from (same_scalar a a && same_value b b && bytes_eq c c) (same_lists same_case d d) (and_from (same_scalar a a && same_value b b) (bytes_eq c c) (and_from (same_scalar a a) (same_value b b) (scalar_itself a) (value_itself b)) (bytes_itself c)) (lists_themselves same_case case_itself d))
op_itself op.Unreachable = refl
op_itself (op.Guard a b c) = (and_from (same_value a a && same_value b b) (same_narrow c c) (and_from (same_value a a) (same_value b b) (value_itself a) (value_itself b)) (narrow_itself c))
op_itself (op.Check a) = (value_itself a)
op_itself (op.Enter a) = (symbol_itself a)
op_itself (op.Pre a b) = (and_from (same_symbol a a) (nat_eq b b) (symbol_itself a) (eq_self b))
op_itself (op.Post a b) = (and_from (same_symbol a a) (nat_eq b b) (symbol_itself a) (eq_self b))
op_itself (op.Leave a) = (symbol_itself a)
