use Rattle.std.proofs.Common.{◌≡◌, ◌++◌, take, flat_map}
use Rattle.lx_ir.specs.Text.{block_text}
use Rattle.lx_ir.proofs.text.functions.put_blocks.Given as goal

abbrev pub invariant-loop-block : goal.invariant-loop-block
invariant-loop-block l = l.out.items ≡ l.initial.out.items ++ flat_map (block_text l.scope.m.now l.scope.f.now) (take l.block-index l.blocks)
