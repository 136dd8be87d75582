use Rattle.std.proofs.Common.{◌++◌, codes}
use Rattle.lx_words.proofs.Lists.{next_text, all_texts, joined_two}
use Rattle.lx_ir.specs.Text.{argument_text}
use Rattle.lx_ir.proofs.text.values.put_indices.Goals as goal

pub loop-index-preserved : goal.loop-index-preserved
loop-index-preserved c =
    next_text (λ a. codes ", " ++ argument_text c.args.scope.m.now c.args.scope.f.now a) c.args.indices.now c.loop-index.index-index c.index-item.result c.index-item.result _ _ _ c.loop-index-test.true c.index-item.is c.loop-index.invariant
    (joined_two _ _ _ _ _ c.in_ok-put.ensures c.in_ok-put_argument.ensures)

pub returns : goal.returns
returns c = all_texts (λ a. codes ", " ++ argument_text c.args.scope.m.now c.args.scope.f.now a) c.args.indices.now c.loop-index.index-index _ _ c.loop-index-test.false c.loop-index.invariant
