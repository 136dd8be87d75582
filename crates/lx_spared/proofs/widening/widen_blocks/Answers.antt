use Rattle.std.proofs.Common.{sym, ap, ◌∙◌}
use Rattle.lx_spared.specs.Rooms.{room_at}
use Rattle.lx_spared.specs.Stack.{widest}
use Rattle.lx_spared.proofs.Stacked.{wide_block, wide_blocks}
use Rattle.lx_spared.proofs.widening.widen_blocks.Goals as goal

pub loop-block-preserved : goal.loop-block-preserved
loop-block-preserved c = λ r.
    sym (wide_block c.args.m.now.types r c.args.blocks.now c.loop-block.block-index _ _ _ c.loop-block-test.true c.block-item.is (c.in_ok-widen_instrs.ensures r ∙ ap (widest c.args.m.now.types r (room_at c.loop-block.rooms.entries r)) c.as_slice.ensures)) ∙ c.loop-block.invariant r

pub returns : goal.returns
returns c = λ r. sym (wide_blocks c.args.m.now.types r c.args.blocks.now c.loop-block.block-index _ c.loop-block-test.false) ∙ c.loop-block.invariant r
