use Rattle.std.proofs.Common.{◌≡◌, ◌++◌, drop, map}
use Rattle.lx_image_texts.specs.Programs.{program_block}
use Rattle.lx_image_check.proofs.erased.push_blocks.Given as goal

abbrev pub invariant-loop-block : goal.invariant-loop-block
invariant-loop-block l = l.list ++ map (program_block l.imports) (drop l.block-index l.blocks) ≡ l.initial.list ++ map (program_block l.imports) l.blocks
