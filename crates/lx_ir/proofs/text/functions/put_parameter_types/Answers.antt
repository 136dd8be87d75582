use Rattle.lx_ir.specs.Text.{scalar_text}
use Rattle.lx_ir.specs.declared.module.Parameter.{Parameter}
use Rattle.lx_ir.proofs.TypeLists.{next_item, all_items}
use Rattle.lx_ir.proofs.text.functions.put_parameter_types.Goals as goal

pub loop-i-preserved : goal.loop-i-preserved
loop-i-preserved c =
    next_item (λ (p : Parameter). scalar_text p.ty) c.args.parameters.now c.loop-i.i c.index-parameters-i.result _ _ _ _ c.loop-i-test.true c.index-parameters-i.is c.loop-i.invariant c.in_ok-put_separator.ensures c.in_ok-put_scalar.ensures

pub returns : goal.returns
returns c = all_items (λ (p : Parameter). scalar_text p.ty) c.args.parameters.now c.loop-i.i _ _ c.loop-i-test.false c.loop-i.invariant
