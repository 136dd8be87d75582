use Rattle.std.proofs.Common.{◌∙◌}
use Rattle.std.proofs.lemmas.Result.{err_from_is_err_and}
use Rattle.lx_ir.specs.Faults.{label_fault}
use Rattle.lx_ir_verify.proofs.BlockPasses.{passed, instrs_step}
use Rattle.lx_ir_verify.proofs.Passes.{first_answer}
use Rattle.lx_ir_verify.proofs.labels.check_labels.Goals as goal

pub returns-in_err-check_block : goal.returns-in_err-check_block
returns-in_err-check_block c =
    let s = c.loop-block.invariant ∙ instrs_step (label_fault c.args.f.now) c.args.blocks.now c.loop-block.block-index c.block-item.result c.as_slice.result.now c.loop-block-test.true c.block-item.is c.as_slice.ensures in
    let p = err_from_is_err_and c.from_residual.result c.from_residual.ensures.1 in
    rw (p.1, p.2) (first_answer _ _ _ c.in_err-check_block.field-0.0 s c.in_err-check_block.ensures)

pub loop-block-preserved : goal.loop-block-preserved
loop-block-preserved c =
    passed _ _ _ (c.loop-block.invariant ∙ instrs_step (label_fault c.args.f.now) c.args.blocks.now c.loop-block.block-index c.block-item.result c.as_slice.result.now c.loop-block-test.true c.block-item.is c.as_slice.ensures) c.in_ok-check_block.ensures
