use Rattle.std.proofs.Common.{arith}
use Rattle.lx_slot_sums.proofs.Edges.{none_counted, some_counted}
use Rattle.lx_slot_sums.proofs.rows.edge_at.Goals as goal

pub returns-then-count-eq0 : goal.returns-then-count-eq0
returns-then-count-eq0 c = none_counted c.args.edges.now c.args.offset c.count_upto-count.result c.count_upto-count.ensures c.if-count-eq0.true

pub returns : goal.returns
returns c = some_counted c.args.edges.now c.args.offset c.count_upto-count.result _ c.count_upto-count.ensures (omega (arith, c.if-count-eq0.false))
