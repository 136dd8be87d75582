use Rattle.lx_ir_walks.proofs.ReadLists.{appended, all_appended, blocks_step, blocks_end}
use Rattle.lx_ir_walks.proofs.reads.push_blocks.Goals as goal

pub loop-k-preserved : goal.loop-k-preserved
loop-k-preserved c =
    appended _ c.loop-k.out.items c.push_block.new.out.items _ _ _ c.loop-k.invariant
    (blocks_step c.args.index.now c.args.blocks.now c.loop-k.k c.index-blocks-k.result c.as_slice.result.now c.loop-k-test.true c.index-blocks-k.is c.as_slice.ensures) c.in_ok-push_block.ensures

pub returns : goal.returns
returns c =
    all_appended _ c.loop-k.out.items _ c.loop-k.invariant
    (blocks_end c.args.index.now c.loop-k.k c.args.blocks.now c.loop-k.k c.loop-k-test.false)
