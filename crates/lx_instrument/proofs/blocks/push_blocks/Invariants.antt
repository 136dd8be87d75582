use Rattle.std.proofs.Common.{◌≡◌, ◌++◌, drop, map}
use Rattle.lx_instrument.specs.Made.{block_by}
use Rattle.lx_spared.specs.Rooms.{spared_by}
use Rattle.lx_instrument.proofs.blocks.push_blocks.Given as goal

abbrev pub invariant-loop-block : goal.invariant-loop-block
invariant-loop-block l =
    l.list ++ map (block_by l.numbers (spared_by l.rooms)) (drop l.block-index l.blocks) ≡ l.initial.list ++ map (block_by l.numbers (spared_by l.rooms)) l.blocks
