use Rattle.lx_words.proofs.Lists.{map_step, map_end}
use Rattle.lx_instrument.specs.Made.{block_by}
use Rattle.lx_spared.specs.Rooms.{spared_by}
use Rattle.lx_instrument.proofs.blocks.push_blocks.Goals as goal

pub loop-block-preserved : goal.loop-block-preserved
loop-block-preserved c =
    map_step (block_by c.args.numbers.now (spared_by c.args.rooms.now)) c.args.blocks.now c.loop-block.block-index c.block-item.result _ _ _ c.loop-block-test.true c.block-item.is c.loop-block.invariant c.in_ok-push_block.ensures

pub returns : goal.returns
returns c = map_end (block_by c.args.numbers.now (spared_by c.args.rooms.now)) c.args.blocks.now c.loop-block.block-index _ _ c.loop-block-test.false c.loop-block.invariant
