use Rattle.lx_ir_verify.proofs.BlockPasses.{results_more}
use Rattle.lx_ir_verify.proofs.operands.push_block_results.Goals as goal

pub loop-block-preserved : goal.loop-block-preserved
loop-block-preserved c =
    results_more _ c.loop-block.types.items c.push_results.new.types.items c.args.blocks.now c.loop-block.block-index c.block-item.result c.as_slice.result.now c.loop-block-test.true c.block-item.is c.as_slice.ensures c.loop-block.invariant c.in_ok-push_results.ensures
