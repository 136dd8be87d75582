use Rattle.std.proofs.Common.{◌∙◌, refl, ap, arith}
use Rattle.std.proofs.lemmas.Option.{slice_get_read}
use Rattle.std.proofs.lemmas.Result.{err_from_is_err_and}
use Rattle.lx_ir.specs.declared.instr.Instr.{Instr}
use Rattle.lx_model.specs.Effect.{is_phi}
use Rattle.lx_image_steps.specs.Standing.{run_of}
use Rattle.lx_image_steps.proofs.Phis.{phi_found, phis_given}
use Rattle.lx_image_steps.proofs.steps.phis_of.Goals as goal

pub returns-in_err-add_phi : goal.returns-in_err-add_phi
returns-in_err-add_phi c =
    let is = c.args.instrs.now in
    let i = c.index-instrs-place.result in
    let at = slice_get_read is _ c.loop-place.place i refl c.loop-place-test.true c.index-instrs-place.is in
    let p = err_from_is_err_and c.from_residual.result c.from_residual.ensures.1 in
    rw (p.1) (phi_found is c.loop-place.place i at (ap (λ (i : Instr). is_phi i.op) c.index-instrs-place.is ∙ c.in_err-add_phi.ensures))

pub returns : goal.returns
returns c =
    let before = c.args.before.now in
    phis_given c.args.code.now.program (run_of c.args.code.now before) c.args.instrs.now c.loop-place.place c.loop-place.words.items before.registers.items
    (omega (arith, c.loop-place-test.false)) c.loop-place.invariant
