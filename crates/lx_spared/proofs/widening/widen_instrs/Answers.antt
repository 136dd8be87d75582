use Rattle.std.proofs.Common.{sym, ◌∙◌}
use Rattle.lx_spared.proofs.Stacked.{wide_step, wide_end}
use Rattle.lx_spared.proofs.widening.widen_instrs.Goals as goal

pub loop-instr-preserved : goal.loop-instr-preserved
loop-instr-preserved c = λ r.
    sym (wide_step c.args.m.now.types r c.args.instrs.now c.loop-instr.instr-index _ _ _ c.loop-instr-test.true c.instr-item.is (c.in_ok-widen_by.ensures r)) ∙ c.loop-instr.invariant r

pub returns : goal.returns
returns c = λ r. sym (wide_end c.args.m.now.types r c.args.instrs.now c.loop-instr.instr-index _ c.loop-instr-test.false) ∙ c.loop-instr.invariant r
