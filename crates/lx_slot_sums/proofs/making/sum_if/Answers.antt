use Rattle.lx_slot_sums.proofs.Laying.{first_if}
use Rattle.lx_slot_sums.proofs.making.sum_if.Goals as goal

pub returns-then-holds : goal.returns-then-holds
returns-then-holds c = λ f h. first_if c.args.sums.now c.args.all.now c.args.spread f c.args.holds c.sum_at.result c.if-holds.true c.sum_at.ensures h
