-- An instruction of a module fits its types exactly where it does in the image.
use Rattle.std.proofs.Common.{◌≡◌, Bool, true, not, ◌&&◌, List, [], ◌∷◌, None, refl, sym, ◌∙◌, ap}
use Rattle.std.specs.Prelude.{option_map}
use Rattle.std.specs.List.{list_all}
use Rattle.std.proofs.lemmas.Bool.{and_from}
use Rattle.lx_words.proofs.Tests.{false_true, first_of, second_of}
use Rattle.lx_ir.specs.declared.types.NamedType.{NamedType}
use Rattle.lx_ir.specs.declared.module.Function.{Function}
use Rattle.lx_ir.specs.declared.module.Module.{Module}
use Rattle.lx_ir.specs.declared.instr.Argument.{Argument}
use Rattle.lx_ir.specs.declared.instr.Instr.{Instr}
use Rattle.lx_ir.specs.declared.instr.Op.{Op}
use Rattle.lx_ir.specs.declared.instr.Op.TheVariants as op
use Rattle.lx_ir.specs.Lookup.{instrs_of}
use Rattle.lx_ir.specs.Lawful.{is_name, has_form, is_lawful_op}
use Rattle.lx_ir.specs.Operands.{operands_of, labels_of, is_image_line, register_types}
use Rattle.lx_ir.specs.Faults.{first_some, value_fits, is_integer, indices_fit, same_result, form_fits, is_typed, type_fault}
use Rattle.lx_ir.proofs.Refused.{unless_none}
use Rattle.lx_annot.specs.declared.interface.Interface.{Interface}
use Rattle.lx_image_texts.specs.Marks.{is_mark, image_op}
use Rattle.lx_image_texts.specs.Guards.{Guards}
use Rattle.lx_image_texts.specs.Programs.{value_within, call_within, op_within}
use Rattle.lx_image_texts.proofs.Closed.{op_is}
use Rattle.lx_image_texts.proofs.Distinct.{Each}
use Rattle.lx_image_texts.proofs.Beside.{Alike, IsMarkOf, BesideFunction, code_beside, same_operands, mark_facts}
use Rattle.lx_image_texts.proofs.Along.{each_program, each_image}
use Rattle.lx_image_texts.proofs.Flow.{types_same}
use Rattle.lx_image_texts.proofs.MarkOperands.{mark_operands, mark_passes}
use Rattle.lx_image_texts.proofs.Signatures.{calls_same}
use Rattle.lx_image_texts.proofs.Faultless.{NoFault, none_unless, each_none, none_each}

module _ (i : Interface) (m x : Module) (g : Guards i m x) (f h : Function) (b : BesideFunction m f h) where
  form_same : (o : Op) → not (is_image_line o) ≡ true → call_within m o ≡ true → form_fits m f o ≡ form_fits x h (image_op m o)
  form_same (op.GetElementPtr to ty base indices) p l = ap (λ (ns : List NamedType). list_all (λ (a : Argument). is_integer a.ty) indices && indices_fit ns ty indices) (sym g.types)
  form_same (op.Call to ret c args) p l = sym (calls_same i m x g ret args c l)
  form_same (op.Ret v) p l = ap (same_result (option_map (λ (a : Argument). a.ty) v)) b.ret
  form_same (op.Guard at size narrow) p l = false_true p
  form_same (op.Check target) p l = false_true p
  form_same o p l = refl

  pub typed_same : (o p : Op) → Alike m o p → call_within m o ≡ true → is_typed m f (register_types f) o ≡ is_typed x h (register_types h) p
  typed_same o p a l =
      let form = form_same o a.plain l ∙ ap (form_fits x h) a.is in
      λ t. list_all (λ (y : Argument). value_fits (types_same m f h b t) y.ty y.value) (same_operands m o p a t) && form t

  abbrev FitsWithin : Instr → Type 0
  FitsWithin j = op_within m j.op ≡ true → NoFault (type_fault m f (register_types f)) j

  each_fits : (is : List Instr) → list_all (λ (j : Instr). op_within m j.op) is ≡ true → Each FitsWithin is → Each (NoFault (type_fault m f (register_types f))) is
  each_fits [] w h = tt
  each_fits (j ∷ is) w h = (h.0 (first_of (op_within m j.op) (list_all (λ (j : Instr). op_within m j.op) is) w), each_fits is (second_of (op_within m j.op) (list_all (λ (j : Instr). op_within m j.op) is) w) h.1)

  pub types_program : list_all (λ (j : Instr). op_within m j.op) (instrs_of f) ≡ true → first_some (type_fault x h (register_types h)) (instrs_of h) ≡ None → first_some (type_fault m f (register_types f)) (instrs_of f) ≡ None
  types_program w e =
      none_each (type_fault m f (register_types f)) (instrs_of f)
      (each_fits (instrs_of f) w
      (each_program FitsWithin (NoFault (type_fault x h (register_types h))) m
      (λ j k a n v. none_unless (is_typed m f (register_types f) j.op) _
      (typed_same j.op k.op a (first_of (call_within m j.op) (list_all (λ (y : Argument). value_within m y.value) (operands_of j.op)) v) ∙ unless_none (is_typed x h (register_types h) k.op) _ n))
      (instrs_of f) (instrs_of h) (code_beside m f h b) (each_none (type_fault x h (register_types h)) (instrs_of h) e)))

  -- and marks fit before instructions that fit

  mark_fits_form : (k : Op) → is_mark k ≡ true → form_fits x h k ≡ true
  mark_fits_form (op.Guard at size narrow) e = refl
  mark_fits_form (op.Check target) e = refl
  mark_fits_form k e = false_true e

  abbrev fits_argument : Module → Function → Argument → Bool
  fits_argument y e a = value_fits (register_types e) a.ty a.value

  mark_typed : (k o : Op) → IsMarkOf k o → has_form m o ≡ true → is_typed m f (register_types f) o ≡ true → is_typed x h (register_types h) k ≡ true
  mark_typed k o q form t =
      let operands : list_all (fits_argument x h) (operands_of o) ≡ true =
      sym (ap (λ ts. list_all (λ (y : Argument). value_fits ts y.ty y.value) (operands_of o)) (types_same m f h b)) ∙ first_of (list_all (fits_argument m f) (operands_of o)) (form_fits m f o) t in
      and_from (list_all (fits_argument x h) (operands_of k)) (form_fits x h k)
      (mark_passes (fits_argument x h) (λ n. refl) (operands_of o) (operands_of k) operands (mark_operands m k o form q)) (mark_fits_form k (mark_facts k o q).mark)

  record Fits (j : Instr) : Type 0 where
    lawful : is_lawful_op m f j.op ≡ true
    typed : NoFault (type_fault m f (register_types f)) j

  each_both : (is : List Instr) → list_all (λ (j : Instr). is_lawful_op m f j.op) is ≡ true → Each (NoFault (type_fault m f (register_types f))) is → Each Fits is
  each_both [] l h = tt
  each_both (j ∷ is) l h =
      (record { lawful = first_of (is_lawful_op m f j.op) (list_all (λ (j : Instr). is_lawful_op m f j.op) is) l; typed = h.0 }, each_both is (second_of (is_lawful_op m f j.op) (list_all (λ (j : Instr). is_lawful_op m f j.op) is) l) h.1)

  lawful_form : (o : Op) → is_lawful_op m f o ≡ true → has_form m o ≡ true
  lawful_form o l = first_of (has_form m o) _ (first_of (has_form m o && _) (list_all is_name (labels_of o)) l)

  pub types_image : list_all (λ (j : Instr). is_lawful_op m f j.op) (instrs_of f) ≡ true → first_some (type_fault m f (register_types f)) (instrs_of f) ≡ None → first_some (type_fault x h (register_types h)) (instrs_of h) ≡ None
  types_image l e =
      none_each (type_fault x h (register_types h)) (instrs_of h)
      (each_image Fits (NoFault (type_fault x h (register_types h))) m
      (λ j k a n. none_unless (is_typed x h (register_types h) k.op) _
      (sym (typed_same j.op k.op a (first_of (call_within m j.op) (list_all (λ (y : Argument). value_within m y.value) (operands_of j.op)) (op_is m f j.op n.lawful))) ∙ unless_none (is_typed m f (register_types f) j.op) _ n.typed))
      (λ j k q n. none_unless (is_typed x h (register_types h) k.op) _ (mark_typed k.op j.op q (lawful_form j.op n.lawful) (unless_none (is_typed m f (register_types f) j.op) _ n.typed)))
      (instrs_of f) (instrs_of h) (code_beside m f h b) (each_both (instrs_of f) l (each_none (type_fault m f (register_types f)) (instrs_of f) e)))
