use Rattle.std.proofs.Common.{◌≡◌, ◌∙◌, ap, refl, subst, sym, ℕ, false, true, IsSome, List, None, Option, Some, nat_eq}
use Rattle.std.specs.Prelude.{position}
use Rattle.lx_words.specs.Word.{Word}
use Rattle.lx_ir.specs.declared.instr.Op.{Op}
use Rattle.lx_ir.specs.declared.instr.Op.TheVariants as op
use Rattle.lx_ir.specs.declared.instr.SwitchCase.{SwitchCase}
use Rattle.lx_model.specs.Effect.{bits, chosen_label, effect, jump_effect}
use Rattle.lx_code.specs.Fits.{wants_table}
use Rattle.lx_image_steps.specs.Effects.{Leads, label_after}
use Rattle.lx_image_steps.specs.Standing.{label_at, run_of}
use Rattle.lx_image_steps.proofs.Firsts.{first_label}
use Rattle.lx_image_steps.proofs.jumps.switch_by_table.Goals as goal

never_none : {A B : Type 0} (o : Option A) → o ≡ None → IsSome o → B
never_none o none some =
    let never : false ≡ true = subst (λ x. IsSome x) none some in
    absurd (cc)

pub returns-in-Some-clause-does : goal.returns-in-Some-clause-does
returns-in-Some-clause-does c =
    let p = c.args.code.now.program in
    let a = run_of c.args.code.now c.args.run.now in
    let otherwise = c.in-Switch.otherwise in
    let cases = c.in-Switch.cases in
    let n = c.number.inside.bits in
    let place = c.in-Some.found in
    let here : c.args.op.now ≡ op.Switch c.in-Switch.ty c.in-Switch.value otherwise cases = c.in-Switch.is in
    let first : place ≡ position (λ (x : SwitchCase). nat_eq (bits p a x.value) n) cases =
    c.in-Some.ensures.first c.in-Switch.ty c.in-Switch.value otherwise cases (c.requires ∙ ap (λ (o : Op). Some o) here) a refl in
    c.jump.ensures.does
    ∙ ap (jump_effect p a)
    (c.label_at.ensures ∙ ap (λ (xs : List SwitchCase). label_at xs place otherwise) c.as_slice.ensures
    ∙ first_label (λ (x : SwitchCase). nat_eq (bits p a x.value) n) cases place otherwise first)
    ∙ ap (λ (w : Word). jump_effect p a (chosen_label p a w.bits otherwise cases)) (c.number.view_is ∙ c.operand.ensures)
    ∙ ap (effect p a) (sym here)

pub returns-in-Some-clause-leads : goal.returns-in-Some-clause-leads
returns-in-Some-clause-leads c =
    let p = c.args.code.now.program in
    let a = run_of c.args.code.now c.args.run.now in
    let otherwise = c.in-Switch.otherwise in
    let cases = c.in-Switch.cases in
    let n = c.number.inside.bits in
    let place = c.in-Some.found in
    let here : c.args.op.now ≡ op.Switch c.in-Switch.ty c.in-Switch.value otherwise cases = c.in-Switch.is in
    let first : place ≡ position (λ (x : SwitchCase). nat_eq (bits p a x.value) n) cases =
    c.in-Some.ensures.first c.in-Switch.ty c.in-Switch.value otherwise cases (c.requires ∙ ap (λ (o : Op). Some o) here) a refl in
    let label =
    c.label_at.ensures ∙ ap (λ (xs : List SwitchCase). label_at xs place otherwise) c.as_slice.ensures
    ∙ first_label (λ (x : SwitchCase). nat_eq (bits p a x.value) n) cases place otherwise first
    ∙ ap (λ (w : Word). chosen_label p a w.bits otherwise cases) (c.number.view_is ∙ c.operand.ensures) in
    subst (λ (o : Op). Leads a (label_after p a o) c.jump.result) (sym here) (subst (λ (l : List ℕ). Leads a (Some l) c.jump.result) label c.jump.ensures.leads)

pub returns-in-None-clause-quick : goal.returns-in-None-clause-quick
returns-in-None-clause-quick c = λ ty v otherwise cases is wants.
    let s = c.in-Switch in
    let here : c.args.op.now ≡ op.Switch s.ty s.value s.otherwise s.cases = s.is in
    never_none c.case.result c.in-None.is
    (c.case.ensures.quick s.ty s.value s.otherwise s.cases (c.requires ∙ ap (λ (o : Op). Some o) here) (subst (λ (o : Op). wants_table o ≡ true) here wants))

pub returns-in_default-clause-quick : goal.returns-in_default-clause-quick
returns-in_default-clause-quick c = λ ty v otherwise cases is wants. absurd (c.in_default.not-Switch ty v otherwise cases is)
