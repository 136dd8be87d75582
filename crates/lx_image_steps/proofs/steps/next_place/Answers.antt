use Rattle.std.proofs.Common.{◌≡◌, true, ap, sym, ◌∙◌, add-one, map}
use Rattle.lx_ir.specs.declared.instr.Instr.{Instr}
use Rattle.lx_image_steps.specs.Standing.{rest_from}
use Rattle.lx_image_steps.proofs.Places.{phi_passed, past_end}
use Rattle.lx_image_steps.proofs.steps.next_place.Goals as goal

pub loop-place-preserved : goal.loop-place-preserved
loop-place-preserved c =
    let code = map (λ (i : Instr). i.op) c.args.instrs.now in
    let h : c.is_phi_at.result ≡ true = c.if-not-is_phi_at.false in
    c.loop-place.invariant ∙ phi_passed c.loop-place.place code (sym c.is_phi_at.ensures ∙ h)
    ∙ ap (λ j. rest_from true j code) (sym (add-one c.loop-place.place))

pub returns : goal.returns
returns c =
    ap (λ a. rest_from a c.args.from (map (λ (i : Instr). i.op) c.args.instrs.now)) c.if-not-arrived.false
    ∙ c.loop-place.invariant ∙ past_end c.args.instrs.now c.args.arrived c.loop-place.place c.loop-place-test.false c.if-not-arrived.false
