use Rattle.std.proofs.Common.{◌≡◌, ◌++◌, take}
use Rattle.lx_image_check.proofs.stripped.push_blocks.Given as goal

abbrev pub invariant-loop-block : goal.invariant-loop-block
invariant-loop-block l = l.list ≡ l.initial.list ++ take l.block-index l.blocks
