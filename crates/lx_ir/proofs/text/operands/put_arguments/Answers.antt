use Rattle.std.proofs.lemmas.Result.{IfOk-equal}
use Rattle.lx_words.proofs.Lists.{joined_three}
use Rattle.lx_ir.specs.Text.{argument_text}
use Rattle.lx_ir.proofs.TypeLists.{next_item, all_items}
use Rattle.lx_ir.proofs.text.operands.put_arguments.Goals as goal

pub loop-i-preserved : goal.loop-i-preserved
loop-i-preserved c =
    next_item (argument_text c.args.scope.m.now c.args.scope.f.now) c.args.arguments.now c.loop-i.i c.index-arguments-i.result _ _ _ _ c.loop-i-test.true c.index-arguments-i.is c.loop-i.invariant c.in_ok-put_separator.ensures c.in_ok-put_argument.ensures

pub returns : goal.returns
returns c =
    IfOk-equal c.put-2.result _ _ _ c.put-2.ensures
    (joined_three _ _ _ _ _ _ c.in_ok-put.ensures
    (all_items (argument_text c.args.scope.m.now c.args.scope.f.now) c.args.arguments.now c.loop-i.i _ _ c.loop-i-test.false c.loop-i.invariant))
