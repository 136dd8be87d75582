use Rattle.std.proofs.Common.{◌∙◌}
use Rattle.std.proofs.lemmas.Result.{err_from_is_err_and}
use Rattle.lx_ir_verify.proofs.BlockPasses.{passed}
use Rattle.lx_ir_verify.proofs.FirstLabel.{label_step}
use Rattle.lx_ir_verify.proofs.Passes.{first_answer}
use Rattle.lx_ir_verify.proofs.labels.check_block.Goals as goal

pub returns-in_err-check_instr : goal.returns-in_err-check_instr
returns-in_err-check_instr c =
    let s = c.loop-instr.invariant ∙ label_step c.args.f.now c.args.instrs.now c.loop-instr.instr-index c.instr-item.result c.loop-instr-test.true c.instr-item.is in
    let p = err_from_is_err_and c.from_residual.result c.from_residual.ensures.1 in
    rw (p.1, p.2) (first_answer _ _ _ c.in_err-check_instr.field-0.0 s c.in_err-check_instr.ensures)

pub loop-instr-preserved : goal.loop-instr-preserved
loop-instr-preserved c =
    passed _ _ _ (c.loop-instr.invariant ∙ label_step c.args.f.now c.args.instrs.now c.loop-instr.instr-index c.instr-item.result c.loop-instr-test.true c.instr-item.is) c.in_ok-check_instr.ensures
