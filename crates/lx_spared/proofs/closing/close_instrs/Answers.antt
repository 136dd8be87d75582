use Rattle.std.proofs.Common.{sym, ◌∙◌}
use Rattle.lx_spared.proofs.Stacked.{kept_step, kept_end}
use Rattle.lx_spared.proofs.closing.close_instrs.Goals as goal

pub loop-instr-preserved : goal.loop-instr-preserved
loop-instr-preserved c = λ r.
    sym (kept_step r c.args.instrs.now c.loop-instr.instr-index _ _ _ c.loop-instr-test.true c.instr-item.is (c.in_ok-close_op.ensures r)) ∙ c.loop-instr.invariant r

pub returns : goal.returns
returns c = λ r. sym (kept_end r c.args.instrs.now c.loop-instr.instr-index _ c.loop-instr-test.false) ∙ c.loop-instr.invariant r
