-- No wrapper of an image has a fault.
use Rattle.std.proofs.Common.{◌≡◌, ℕ, suc, ◌+◌, ◌<◌, ◌≤◌, Bool, true, false, not, ◌&&◌, ◌||◌, List, [], ◌∷◌, ◌++◌, map, length, take, drop, Option, Some, None, refl, sym, subst, ◌∙◌, ap, arith, append-nil}
use Rattle.std.specs.Prelude.{codes, filter_map, find, flat_map, option_map, slice_get}
use Rattle.std.specs.List.{list_all, list_any, cons_option}
use Rattle.std.proofs.lemmas.List.Folds.{list_any-append}
use Rattle.std.proofs.lemmas.Bool.{and_from}
use Rattle.lx_words.proofs.Lists.{no_list, map_length as length_map, got_past, split_at, heads, tails}
use Rattle.lx_words.proofs.Tests.{eq_self}
use Rattle.lx_ir.specs.declared.types.Scalar.{Scalar}
use Rattle.lx_ir.specs.declared.module.Parameter.{Parameter}
use Rattle.lx_ir.specs.declared.module.Symbol.TheVariants as symbol
use Rattle.lx_ir.specs.declared.module.Value.{Value}
use Rattle.lx_ir.specs.declared.module.Function.{Function}
use Rattle.lx_ir.specs.declared.module.Module.{Module}
use Rattle.lx_ir.specs.declared.instr.Argument.{Argument}
use Rattle.lx_ir.specs.declared.instr.Callee.TheVariants as callee
use Rattle.lx_ir.specs.declared.instr.Instr.{Instr}
use Rattle.lx_ir.specs.declared.instr.Op.{Op}
use Rattle.lx_ir.specs.declared.instr.Op.TheVariants as op
use Rattle.lx_ir.specs.Lookup.{blocks_of, instrs_of}
use Rattle.lx_ir.specs.Operands.{operands_of, returned_operands, is_phi, given_by, kept_result, result_of, labels_of, register_types}
use Rattle.lx_ir.specs.Lawful.{same_scalar}
use Rattle.lx_ir.specs.Faults.{NoSuchLabel, first_some, end_fault, has_block, label_fault, last_of, is_end, same_result, are_arguments, has_signature, calls_well, is_typed, value_fits, fits_if_typed, type_fault, op_edges_fit, phi_fault, phi_faults, block_phi_faults, read_here, reads_of_op, reads_from, reads_of, is_given, assigns, FirstUnassigned}
use Rattle.lx_ir.proofs.Equality.{scalar_itself}
use Rattle.lx_annot.specs.declared.action.Annotation.{Annotation}
use Rattle.lx_image_texts.specs.WrapperText.{Side, wrapper_params, wrapper_args, result_register, returned, wrapper_code}
use Rattle.lx_image_texts.proofs.Distinct.{Each}
use Rattle.lx_image_texts.proofs.Ordering.{none_or}
use Rattle.lx_image_texts.proofs.Wrapping.{each_joined}
use Rattle.lx_image_texts.proofs.Faultless.{NoFault, none_unless, none_each, Parts}
use Rattle.lx_image_texts.proofs.Unassigned.{each_map, drop_next, plain_reads, Assigned, none_unassigned}
use Rattle.lx_image_texts.proofs.WrapperCode.{ops, made, call_of, return_of, Lines, code_each, ops_each, front_of, front_each, in_two, ends_with, filter_code, filter_ops, any_ops, any_call}
use Rattle.lx_image_texts.proofs.WrapperValues.{many_params, types_of_params, args_fit_params, Below, args_below, args_typed}
use Rattle.lx_image_texts.proofs.Comparing.{result_itself}

-- the types of its registers: its parameters', and its result's

abbrev results : Option Scalar → List Scalar
results None = []
results (Some ty) = ty ∷ []

result_kept : (k : ℕ) (ret : Option Scalar) → cons_option (kept_result (result_register k ret) ret) [] ≡ results ret
result_kept k None = refl
result_kept k (Some ty) = refl

module _ (x : Module) (f : Function) (n : ℕ) (a : Annotation) (side : Side) (js : List Instr) (line : ℕ) (code : ops js ≡ wrapper_code f n a) where
  abbrev it : Function
  it = made f side js line

  two : ops js ≡ front_of f n a ++ (return_of f ∷ [])
  two = code ∙ in_two f n a

  each_line : (P : Op → Type 0) → Lines P f n → P (return_of f) → Each (λ j. P j.op) (js ++ [])
  each_line P h r = subst (Each (λ j. P j.op)) (sym (append-nil js)) (ops_each P js (wrapper_code f n a) code (code_each P f n a h r))

  -- its end, and its labels

  ends : first_some (end_fault it) (blocks_of it) ≡ None
  ends = none_or (end_fault it (record { name = codes "0"; instrs = js })) None (none_unless (is_end (last_of js)) _ (ends_with js (front_of f n a) (return_of f) two)) refl

  labels : first_some (label_fault it) (instrs_of it) ≡ None
  labels =
      none_each (label_fault it) (js ++ [])
      (each_map (λ j. labels_of j.op ≡ []) (NoFault (label_fault it)) (λ j e. ap (λ ls. option_map (λ l. NoSuchLabel j.line l) (find (λ l. not (has_block it l)) ls)) e) (js ++ [])
      (each_line (λ o. labels_of o ≡ []) (record { enter = refl; pre = λ k. refl; call = refl; post = λ k. refl; leave = refl }) refl))

  -- its types

  types : register_types it ≡ map (λ (p : Parameter). p.ty) f.params ++ results f.ret
  types =
      let found : filter_map (λ (j : Instr). result_of j.op) (js ++ []) ≡ results f.ret =
      ap (filter_map (λ (j : Instr). result_of j.op)) (append-nil js) ∙ filter_ops result_of js ∙ ap (filter_map result_of) code
      ∙ filter_code result_of f n a refl (λ k. refl) (λ k. refl) refl refl ∙ result_kept (length f.params) f.ret in
      λ t. types_of_params 0 f.params t ++ found t

  result_there : (ty : Scalar) → slice_get (map (λ (p : Parameter). p.ty) f.params ++ (ty ∷ [])) (length f.params) ≡ Some ty
  result_there ty =
      let many : length f.params ≡ length (map (λ (p : Parameter). p.ty) f.params) + 0 = (let m : length (map (λ (p : Parameter). p.ty) f.params) ≡ length f.params = length_map (λ (p : Parameter). p.ty) f.params in omega (arith, m)) in
      ap (slice_get (map (λ (p : Parameter). p.ty) f.params ++ (ty ∷ []))) many ∙ got_past (map (λ (p : Parameter). p.ty) f.params) (ty ∷ []) 0

  return_typed_by : (ret : Option Scalar) (ts : List Scalar) → ts ≡ map (λ (p : Parameter). p.ty) f.params ++ results ret →
      (list_all (λ (y : Argument). value_fits ts y.ty y.value) (returned_operands (returned (length f.params) ret)) && same_result (option_map (λ (y : Argument). y.ty) (returned (length f.params) ret)) ret) ≡ true
  return_typed_by None ts e = refl
  return_typed_by (Some ty) ts e =
      and_from (fits_if_typed ty (slice_get ts (length f.params)) && true) (same_scalar ty ty)
      (and_from (fits_if_typed ty (slice_get ts (length f.params))) true ((λ t. fits_if_typed ty (slice_get (e t) (length f.params))) ∙ ap (fits_if_typed ty) (result_there ty) ∙ scalar_itself ty) refl)
      (scalar_itself ty)

  abbrev fits : Op → Type 0
  fits o = is_typed x it (register_types it) o ≡ true

  module _ (called : (args : List Argument) → calls_well x f.ret args (callee.Symbol (symbol.Function n)) ≡ has_signature f.ret args (Some f)) where
    call_typed : fits (call_of f n)
    call_typed =
        and_from (list_all (λ (y : Argument). value_fits (register_types it) y.ty y.value) (wrapper_args 0 f.params)) (calls_well x f.ret (wrapper_args 0 f.params) (callee.Symbol (symbol.Function n)))
        (args_typed (register_types it) (results f.ret) 0 f.params types)
        (called (wrapper_args 0 f.params) ∙ and_from (same_result f.ret f.ret) (are_arguments (wrapper_args 0 f.params) f.params) (result_itself f.ret) (args_fit_params 0 f.params))

    typed : first_some (type_fault x it (register_types it)) (instrs_of it) ≡ None
    typed =
        none_each (type_fault x it (register_types it)) (js ++ [])
        (each_map (λ j. fits j.op) (NoFault (type_fault x it (register_types it))) (λ j e. none_unless (is_typed x it (register_types it) j.op) _ e) (js ++ [])
        (each_line fits (record { enter = refl; pre = λ k. refl; call = call_typed; post = λ k. refl; leave = refl }) (return_typed_by f.ret (register_types it) types)))

  -- it has no phi

  no_phis : (name : List ℕ) (b : Bool) (is : List Instr) → Each (λ j. is_phi j.op ≡ false) is → phi_faults it name b is ≡ None
  no_phis name b [] h = refl
  no_phis name b (j ∷ is) h =
      none_or (phi_fault it name b j) (phi_faults it name (b && is_phi j.op) is)
      (none_unless (not (is_phi j.op) || b && op_edges_fit it name j.op) _ (ap (λ (d : Bool). not d || b && op_edges_fit it name j.op) h.0)) (no_phis name (b && is_phi j.op) is h.1)

  phi_lines : Lines (λ o. is_phi o ≡ false) f n
  phi_lines = record { enter = refl; pre = λ k. refl; call = refl; post = λ k. refl; leave = refl }

  phis : block_phi_faults it (blocks_of it) ≡ None
  phis = none_or (phi_faults it (codes "0") false js) None (no_phis (codes "0") false js (ops_each (λ o. is_phi o ≡ false) js (wrapper_code f n a) code (code_each (λ o. is_phi o ≡ false) f n a phi_lines refl))) refl

  -- it reads its parameters, and what the call gave

  record ReadsParams (o : Op) : Type 0 where
    plain : is_phi o ≡ false
    below : Each (Below (length f.params)) (operands_of o)

  param_read : (place l r : ℕ) → r < length f.params → Assigned it (record { block = 0; place = place; register = r; line = l })
  param_read place l r less u =
      let many : length (wrapper_params 0 f.params) ≡ length f.params = many_params 0 f.params in
      let most : length (wrapper_params 0 f.params) ≤ r = u.no_parameter in
      omega (arith, many, most, less)

  params_read : (place l : ℕ) (xs : List Argument) → Each (Below (length f.params)) xs → Each (Assigned it) (flat_map (λ y. read_here 0 place l y.value) xs)
  params_read place l [] h = tt
  params_read place l (y ∷ xs) h =
      subst (λ (v : Value). Each (Assigned it) (read_here 0 place l v ++ flat_map (λ y. read_here 0 place l y.value) xs)) (sym h.0.is) (param_read place l h.0.register h.0.less, params_read place l xs h.1)

  op_read : (place l : ℕ) (o : Op) → ReadsParams o → Each (Assigned it) (reads_of_op it 0 place l o)
  op_read place l o h = subst (Each (Assigned it)) (sym (plain_reads it 0 place l o h.plain)) (params_read place l (operands_of o) h.below)

  read_lines : Lines ReadsParams f n
  read_lines =
      record {
        enter = record { plain = refl; below = tt };
        pre = λ k. record { plain = refl; below = tt };
        call = record { plain = refl; below = args_below (length f.params) 0 f.params (omega arith) };
        post = λ k. record { plain = refl; below = tt };
        leave = record { plain = refl; below = tt };
      }

  or_false : (b : Bool) → (b || false) ≡ b
  or_false true = refl
  or_false false = refl

  -- before the return the call gave its result
  given_before : (ty : Scalar) → f.ret ≡ Some ty → (place : ℕ) (j : Instr) → drop place js ≡ j ∷ [] → j.op ≡ return_of f → assigns (take place js) (length f.params) ≡ true
  given_before ty e place j ej eo =
      let parts : take place js ++ (j ∷ []) ≡ js = ap (λ (is : List Instr). take place js ++ is) (sym ej) ∙ split_at place js in
      let gives : Op → Bool = λ o. is_given (length f.params) (given_by o) in
      let all : assigns js (length f.params) ≡ true =
      any_ops gives js ∙ ap (list_any gives) code
      ∙ any_call gives f n a (ap (λ (ret : Option Scalar). is_given (length f.params) (result_register (length f.params) ret)) e ∙ eq_self (length f.params)) in
      sym (ap (λ (o : Op). assigns (take place js) (length f.params) || (gives o || false)) eo ∙ or_false (assigns (take place js) (length f.params)))
      ∙ sym (list_any-append (λ (i : Instr). gives i.op) (take place js) (j ∷ []))
      ∙ ap (λ (is : List Instr). assigns is (length f.params)) parts
      ∙ all

  true_false : {A : Type 0} → true ≡ false → A
  true_false e = cc

  return_read_by : (ret : Option Scalar) → f.ret ≡ ret → (place : ℕ) (j : Instr) → drop place js ≡ j ∷ [] → j.op ≡ return_of f → Each (Assigned it) (reads_of_op it 0 place j.line (op.Ret (returned (length f.params) ret)))
  return_read_by None e place j ej eo = tt
  return_read_by (Some ty) e place j ej eo = (λ u. true_false (sym (given_before ty e place j ej eo) ∙ u.not_here), tt)

  return_read : (place : ℕ) (j : Instr) → drop place js ≡ j ∷ [] → j.op ≡ return_of f → Each (Assigned it) (reads_of_op it 0 place j.line j.op)
  return_read place j ej eo = subst (λ (o : Op). Each (Assigned it) (reads_of_op it 0 place j.line o)) (sym eo) (return_read_by f.ret refl place j ej eo)

  reads_by : (place : ℕ) (is : List Instr) (os : List Op) → drop place js ≡ is → ops is ≡ os ++ (return_of f ∷ []) → Each ReadsParams os → Each (Assigned it) (reads_from it 0 place is)
  reads_by place [] os e h r = tt
  reads_by place (j ∷ []) [] e h r = each_joined (Assigned it) (reads_of_op it 0 place j.line j.op) [] (return_read place j e (heads h)) tt
  reads_by place (j ∷ k ∷ is) [] e h r = no_list (sym (tails h))
  reads_by place (j ∷ is) (o ∷ os) e h r =
      each_joined (Assigned it) (reads_of_op it 0 place j.line j.op) (reads_from it 0 (suc place) is) (op_read place j.line j.op (subst ReadsParams (sym (heads h)) r.0))
      (reads_by (suc place) is os (drop_next place js j is e) (tails h) r.1)

  reads : FirstUnassigned it (reads_of it) None
  reads = none_unassigned it (reads_of it) (each_joined (Assigned it) (reads_from it 0 0 js) [] (reads_by 0 js (front_of f n a) refl two (front_each ReadsParams f n a read_lines)) tt)

  pub wrapper_parts : ((args : List Argument) → calls_well x f.ret args (callee.Symbol (symbol.Function n)) ≡ has_signature f.ret args (Some f)) → Parts x it
  wrapper_parts called = record { ends = ends; labels = labels; typed = typed called; phis = phis; reads = reads }
