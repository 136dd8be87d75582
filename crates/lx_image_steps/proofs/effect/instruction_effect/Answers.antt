use Rattle.std.proofs.Common.{List, Some, ap, subst, sym, ◌∙◌}
use Rattle.lx_ir.specs.declared.instr.Argument.{Argument}
use Rattle.lx_ir.specs.declared.instr.SwitchCase.{SwitchCase}
use Rattle.lx_ir.specs.declared.instr.Op.{Op}
use Rattle.lx_ir.specs.declared.instr.Op.TheVariants as op
use Rattle.lx_model.specs.Effect.{effect, bits, chosen_label, jump_effect}
use Rattle.lx_image_steps.specs.Effects.{Leads, label_after}
use Rattle.lx_image_steps.specs.Standing.{run_of}
use Rattle.lx_image_steps.proofs.effect.instruction_effect.Goals as goal

pub returns-in-Alloca-clause-does : goal.returns-in-Alloca-clause-does
returns-in-Alloca-clause-does c =
    c.alloca.ensures c.in-Alloca.to ∙ ap (effect c.args.code.now.program (run_of c.args.code.now c.args.run.now)) (sym c.in-Alloca.is)

pub returns-in-Load-clause-does : goal.returns-in-Load-clause-does
returns-in-Load-clause-does c = c.load.ensures c.in-Load.to ∙ ap (effect c.args.code.now.program (run_of c.args.code.now c.args.run.now)) (sym c.in-Load.is)

pub returns-in-GetElementPtr-clause-does : goal.returns-in-GetElementPtr-clause-does
returns-in-GetElementPtr-clause-does c =
    let e = effect c.args.code.now.program (run_of c.args.code.now c.args.run.now) in
    c.element.ensures c.in-GetElementPtr.to
    ∙ ap (λ (xs : List Argument). e (op.GetElementPtr c.in-GetElementPtr.to c.in-GetElementPtr.ty c.in-GetElementPtr.base xs)) c.as_slice.ensures
    ∙ ap e (sym c.in-GetElementPtr.is)

pub returns-in-CopyBlock-clause-does : goal.returns-in-CopyBlock-clause-does
returns-in-CopyBlock-clause-does c =
    c.copy.ensures c.in-CopyBlock.moves ∙ ap (effect c.args.code.now.program (run_of c.args.code.now c.args.run.now)) (sym c.in-CopyBlock.is)

pub returns-in-Switch-clause-does : goal.returns-in-Switch-clause-does
returns-in-Switch-clause-does c =
    let p = c.args.code.now.program in
    let a = run_of c.args.code.now c.args.run.now in
    c.switch.ensures.does
    ∙ ap (λ (xs : List SwitchCase). jump_effect p a (chosen_label p a (bits p a c.in-Switch.value) c.in-Switch.otherwise xs)) c.as_slice-in-Switch.ensures
    ∙ ap (effect p a) (sym c.in-Switch.is)

pub returns-in-Switch-clause-leads : goal.returns-in-Switch-clause-leads
returns-in-Switch-clause-leads c =
    let p = c.args.code.now.program in
    let a = run_of c.args.code.now c.args.run.now in
    let s = c.in-Switch in
    subst (λ (o : Op). Leads a (label_after p a o) c.switch.result) (sym s.is)
    (subst (λ (xs : List SwitchCase). Leads a (Some (chosen_label p a (bits p a s.value) s.otherwise xs)) c.switch.result) c.as_slice-in-Switch.ensures c.switch.ensures.leads)
