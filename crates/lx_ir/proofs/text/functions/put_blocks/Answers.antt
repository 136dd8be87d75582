use Rattle.lx_words.proofs.Lists.{next_text, all_texts}
use Rattle.lx_ir.specs.Text.{block_text}
use Rattle.lx_ir.proofs.text.functions.put_blocks.Goals as goal

pub loop-block-preserved : goal.loop-block-preserved
loop-block-preserved c = next_text (block_text c.args.scope.m.now c.args.scope.f.now) c.args.blocks.now c.loop-block.block-index c.block-item.result c.block-item.result _ _ _ c.loop-block-test.true c.block-item.is c.loop-block.invariant c.in_ok-put_block.ensures

pub returns : goal.returns
returns c = all_texts (block_text c.args.scope.m.now c.args.scope.f.now) c.args.blocks.now c.loop-block.block-index _ _ c.loop-block-test.false c.loop-block.invariant
