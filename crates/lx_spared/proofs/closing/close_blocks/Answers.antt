use Rattle.std.proofs.Common.{sym, ap, ◌∙◌}
use Rattle.lx_spared.specs.Rooms.{room_at}
use Rattle.lx_spared.specs.Stack.{kept_room}
use Rattle.lx_spared.proofs.Stacked.{kept_block, kept_blocks}
use Rattle.lx_spared.proofs.closing.close_blocks.Goals as goal

pub loop-block-preserved : goal.loop-block-preserved
loop-block-preserved c = λ r.
    sym (kept_block r c.args.blocks.now c.loop-block.block-index _ _ _ c.loop-block-test.true c.block-item.is (c.in_ok-close_instrs.ensures r ∙ ap (λ is. kept_room r is (room_at c.loop-block.rooms.entries r)) c.as_slice.ensures)) ∙ c.loop-block.invariant r

pub returns : goal.returns
returns c = λ r. sym (kept_blocks r c.args.blocks.now c.loop-block.block-index _ c.loop-block-test.false) ∙ c.loop-block.invariant r
