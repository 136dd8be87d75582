-- A wrapper of an image is lawful, if its registers are few enough and what it calls may be called.
use Rattle.std.proofs.Common.{◌≡◌, ℕ, ◌+◌, ◌^◌, ◌<◌, Bool, true, false, not, ◌&&◌, ◌||◌, List, [], ◌∷◌, ◌++◌, length, Option, Some, None, inl, refl, sym, ◌∙◌, ap, arith, append-nil, is_none, is_some}
use Rattle.std.specs.Prelude.{filter_map, flat_map, nat_eq, nat_lt}
use Rattle.std.specs.List.{list_all, cons_option}
use Rattle.std.proofs.lemmas.Bool.{and_from}
use Rattle.lx_words.proofs.Tests.{less_true, eq_true, true_less, eq_self}
use Rattle.lx_ir.specs.declared.types.Scalar.{Scalar}
use Rattle.lx_ir.specs.declared.module.Symbol.TheVariants as symbol
use Rattle.lx_ir.specs.declared.module.Function.{Function}
use Rattle.lx_ir.specs.declared.module.Module.{Module}
use Rattle.lx_ir.specs.declared.instr.Argument.{Argument}
use Rattle.lx_ir.specs.declared.instr.Callee.TheVariants as callee
use Rattle.lx_ir.specs.declared.instr.Instr.{Instr}
use Rattle.lx_ir.specs.declared.instr.Op.{Op}
use Rattle.lx_ir.specs.Lookup.{blocks_of, instrs_of}
use Rattle.lx_ir.specs.Lawful.{stands_in_name, is_name, is_block_write, is_distinct, is_lawful_symbol, is_lawful_value, is_lawful_callee, has_form, is_lawful_op, ends_once, is_lawful_block, counts_from, registers_in, numbers_read, read_numbers, first_come, numbers_registers, parameter_names, is_lawful_body, is_lawful_function}
use Rattle.lx_ir.specs.Operands.{operands_where, returned_operands, is_terminator, given_by, register_count, given_numbers}
use Rattle.lx_annot.specs.declared.action.Annotation.{Annotation}
use Rattle.lx_image_texts.specs.WrapperText.{Side, In, Out, wrapper_name, wrapper_args, result_register, result_names, returned, wrapper_code}
use Rattle.lx_image_texts.proofs.Distinct.{Each}
use Rattle.lx_image_texts.proofs.Wrapping.{each_joined}
use Rattle.lx_image_texts.proofs.LawfulPrograms.{head_of}
use Rattle.lx_image_texts.proofs.Numbers.{Came, none_comes}
use Rattle.lx_image_texts.proofs.Programs.{all_of_each}
use Rattle.lx_image_texts.proofs.Unassigned.{each_map}
use Rattle.lx_image_texts.proofs.WrapperCode.{ops, made, call_of, return_of, code_each, ops_each, front_of, front_each, in_two, once_with, filter_code, filter_ops, flat_code, flat_ops}
use Rattle.lx_image_texts.proofs.WrapperValues.{many_params, args_pass, registers_below, all_named, all_once}

-- names

stand : (name : List ℕ) → is_name name ≡ true → list_all stands_in_name name ≡ true
stand [] e = refl
stand (b ∷ name) e = e

wrapper_named : (side : Side) (name : List ℕ) → is_name name ≡ true → is_name (wrapper_name side name) ≡ true
wrapper_named In name e = stand name e
wrapper_named Out name e = stand name e

wrapper_plain : (side : Side) (name : List ℕ) → not (is_block_write (wrapper_name side name)) ≡ true
wrapper_plain In name = refl
wrapper_plain Out name = refl

-- the result

given_many : (k : ℕ) (ret : Option Scalar) → length (cons_option (result_register k ret) []) ≡ length (result_names ret)
given_many k None = refl
given_many k (Some ty) = refl

counts : (k n : ℕ) (ret : Option Scalar) → k ≡ n → counts_from n (cons_option (result_register k ret) []) ≡ true
counts k n None e = refl
counts k n (Some ty) e = and_from (nat_eq k n) true (eq_true k n e) refl

result_kept : (k : ℕ) (ret : Option Scalar) → (is_none (result_register k ret) || is_some ret) ≡ true
result_kept k None = refl
result_kept k (Some ty) = refl

returned_below : (k n : ℕ) (ret : Option Scalar) → k ≡ n → Each (λ r. r < n + length (result_names ret)) (registers_in (returned_operands (returned k ret)) ++ [])
returned_below k n None e = tt
returned_below k n (Some ty) e = (omega (arith, e), tt)

module _ (x : Module) (f : Function) (n : ℕ) (a : Annotation) (side : Side) (js : List Instr) (line : ℕ) (code : ops js ≡ wrapper_code f n a) where
  abbrev it : Function
  it = made f side js line

  many : length it.params ≡ length f.params
  many = many_params 0 f.params

  returned_lawful : (ret : Option Scalar) → f.ret ≡ ret → list_all (λ (y : Argument). is_lawful_value x it y.ty y.value) (returned_operands (returned (length f.params) ret)) ≡ true
  returned_lawful None e = refl
  returned_lawful (Some ty) e =
      let count : length (result_names f.ret) ≡ 1 = ap (λ (ret : Option Scalar). length (result_names ret)) e in
      let params : length it.params ≡ length f.params = many in
      and_from (nat_lt (length f.params) (register_count it)) true (less_true (length f.params) (register_count it) (omega (arith, count, params))) refl

  -- its registers are numbered in order

  given_is : given_numbers it ≡ cons_option (result_register (length f.params) f.ret) []
  given_is =
      ap (filter_map (λ (j : Instr). given_by j.op)) (append-nil js) ∙ filter_ops given_by js ∙ ap (filter_map given_by) code
      ∙ filter_code given_by f n a refl (λ k. refl) (λ k. refl) refl refl

  others_are : numbers_read false (instrs_of it) ≡ registers_in (wrapper_args 0 f.params) ++ (registers_in (returned_operands (returned (length f.params) f.ret)) ++ [])
  others_are =
      ap (numbers_read false) (append-nil js) ∙ flat_ops (λ o. registers_in (operands_where false o)) js ∙ ap (flat_map (λ o. registers_in (operands_where false o))) code
      ∙ flat_code (λ o. registers_in (operands_where false o)) f n a refl (λ k. refl) (λ k. refl) refl

  lines_are : numbers_read true (instrs_of it) ≡ []
  lines_are =
      ap (numbers_read true) (append-nil js) ∙ flat_ops (λ o. registers_in (operands_where true o)) js ∙ ap (flat_map (λ o. registers_in (operands_where true o))) code
      ∙ flat_code (λ o. registers_in (operands_where true o)) f n a refl (λ k. refl) (λ k. refl) refl

  abbrev read : List ℕ
  read = registers_in (wrapper_args 0 f.params) ++ (registers_in (returned_operands (returned (length f.params) f.ret)) ++ [])

  read_is : read_numbers it ≡ read
  read_is = (λ t. others_are t ++ lines_are t) ∙ append-nil read

  start_is : length it.params + length (given_numbers it) ≡ register_count it
  start_is = ap (λ (ns : List ℕ). length it.params + length ns) given_is ∙ ap (λ (k : ℕ). length it.params + k) (given_many (length f.params) f.ret)

  come : Each (Came (register_count it) []) read
  come =
      let params : length it.params ≡ length f.params = many in
      each_map (λ r. r < register_count it) (Came (register_count it) []) (λ r l. inl l) read
      (each_joined (λ r. r < register_count it) (registers_in (wrapper_args 0 f.params)) (registers_in (returned_operands (returned (length f.params) f.ret)) ++ [])
      (registers_below (register_count it) 0 f.params (omega (arith, params))) (returned_below (length f.params) (length it.params) f.ret (sym params)))

  numbered : numbers_registers it ≡ true
  numbered =
      and_from (counts_from (length it.params) (given_numbers it)) (first_come (length it.params + length (given_numbers it)) (register_count it) (read_numbers it))
      (ap (counts_from (length it.params)) given_is ∙ counts (length f.params) (length it.params) f.ret (sym many))
      ((λ t. first_come (start_is t) (register_count it) (read_is t)) ∙ none_comes (register_count it) (register_count it) read come ∙ eq_self (register_count it))

  -- its lines

  abbrev lawful : Op → Type 0
  lawful o = is_lawful_op x it o ≡ true

  module _ (symbol_is : is_lawful_symbol x (symbol.Function n) ≡ true) (callee_is : is_lawful_callee x (callee.Symbol (symbol.Function n)) ≡ true) where
    line_lawful : (is_lawful_symbol x (symbol.Function n) && true && true) ≡ true
    line_lawful = ap (λ (b : Bool). b && true && true) symbol_is

    call_lawful : lawful (call_of f n)
    call_lawful =
        let args : list_all (λ (y : Argument). is_lawful_value x it y.ty y.value) (wrapper_args 0 f.params) ≡ true =
        (let params : length it.params ≡ length f.params = many in args_pass (λ (y : Argument). is_lawful_value x it y.ty y.value) (register_count it) 0 f.params (λ ty r l. less_true r (register_count it) l) (omega (arith, params))) in
        and_from (has_form x (call_of f n) && list_all (λ (y : Argument). is_lawful_value x it y.ty y.value) (wrapper_args 0 f.params)) true
        (and_from (has_form x (call_of f n)) (list_all (λ (y : Argument). is_lawful_value x it y.ty y.value) (wrapper_args 0 f.params))
        (and_from (is_none (result_register (length f.params) f.ret) || is_some f.ret) (is_lawful_callee x (callee.Symbol (symbol.Function n))) (result_kept (length f.params) f.ret) callee_is) args)
        refl

    return_lawful : lawful (return_of f)
    return_lawful = and_from (list_all (λ (y : Argument). is_lawful_value x it y.ty y.value) (returned_operands (returned (length f.params) f.ret))) true (returned_lawful f.ret refl) refl

    code_lawful : list_all (λ (j : Instr). is_lawful_op x it j.op) js ≡ true
    code_lawful =
        all_of_each (λ (j : Instr). is_lawful_op x it j.op) js
        (ops_each lawful js (wrapper_code f n a) code
        (code_each lawful f n a (record { enter = line_lawful; pre = λ k. line_lawful; call = call_lawful; post = λ k. line_lawful; leave = line_lawful }) return_lawful))

    once : ends_once js ≡ true
    once =
        once_with js (front_of f n a) (return_of f) (code ∙ in_two f n a)
        (front_each (λ o. is_terminator o ≡ false) f n a (record { enter = refl; pre = λ k. refl; call = refl; post = λ k. refl; leave = refl }))

    blocks_lawful : list_all (is_lawful_block x it) (blocks_of it) ≡ true
    blocks_lawful =
        and_from (ends_once js && list_all (λ (j : Instr). is_lawful_op x it j.op) js) true (and_from (ends_once js) (list_all (λ (j : Instr). is_lawful_op x it j.op) js) once code_lawful) refl

    pub wrapper_lawful : is_name f.name ≡ true → nat_lt (register_count it) 4294967295 ≡ true → is_lawful_function x it ≡ true
    wrapper_lawful name few =
        let less : register_count it < 4294967295 = true_less (register_count it) 4294967295 few in
        let params : length it.params ≡ length f.params = many in
        let most : 0 + length f.params < 2 ^ 128 = (let small : length f.params < 4294967295 = omega (arith, less, params) in omega (arith, small)) in
        let names : List (List ℕ) = parameter_names it ++ it.locals in
        and_from (is_name it.name && not (is_block_write it.name)) (is_lawful_body x it) (and_from (is_name it.name) (not (is_block_write it.name)) (wrapper_named side f.name name) (wrapper_plain side f.name))
        (and_from (head_of it && list_all (is_lawful_block x it) (blocks_of it)) (numbers_registers it)
        (and_from (head_of it) (list_all (is_lawful_block x it) (blocks_of it))
        (and_from (list_all is_name names && is_distinct names && nat_lt (register_count it) 4294967295 && true) true
        (and_from (list_all is_name names && is_distinct names && nat_lt (register_count it) 4294967295) true
        (and_from (list_all is_name names && is_distinct names) (nat_lt (register_count it) 4294967295) (and_from (list_all is_name names) (is_distinct names) (all_named 0 f.params f.ret) (all_once 0 f.params f.ret most)) few) refl) refl)
        blocks_lawful)
        numbered)
