use Rattle.std.proofs.Common.{sym, ◌∙◌}
use Rattle.lx_spared.proofs.Stacked.{read_step, read_end}
use Rattle.lx_spared.proofs.closing.close_operands.Goals as goal

pub loop-operand-preserved : goal.loop-operand-preserved
loop-operand-preserved c = λ r.
    sym (read_step r c.args.operands.now c.loop-operand.operand-index _ _ _ c.loop-operand-test.true c.operand-item.is (c.in_ok-close_value.ensures r)) ∙ c.loop-operand.invariant r

pub returns : goal.returns
returns c = λ r. sym (read_end r c.args.operands.now c.loop-operand.operand-index _ c.loop-operand-test.false) ∙ c.loop-operand.invariant r
