use Rattle.lx_ir.specs.Text.{parameter_text}
use Rattle.lx_ir.proofs.TypeLists.{next_item, all_items}
use Rattle.lx_ir.proofs.text.functions.put_parameters.Goals as goal

pub loop-i-preserved : goal.loop-i-preserved
loop-i-preserved c =
    next_item parameter_text c.args.parameters.now c.loop-i.i c.index-parameters-i.result _ _ _ _ c.loop-i-test.true c.index-parameters-i.is c.loop-i.invariant c.in_ok-put_separator.ensures c.in_ok-put_parameter.ensures

pub returns : goal.returns
returns c = all_items parameter_text c.args.parameters.now c.loop-i.i _ _ c.loop-i-test.false c.loop-i.invariant
