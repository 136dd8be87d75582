use Rattle.std.proofs.Common.{of_calls, rules, nat_le}
use Rattle.std.proofs.lemmas.Fn.{always_returns_same}
use Rattle.lx_slot_sums.specs.declared.rows.Edge.{Edge}
use Rattle.lx_slot_sums.proofs.Edges.{counts, parted}
use Rattle.lx_slot_sums.proofs.rows.count_upto.Goals as goal

pub returns : goal.returns
returns c =
    counts c.args.edges.now c.args.offset c.partition_point.result c.partition_point.ensures.bound
    (c.partition_point.ensures.partitioned (λ (e : Edge). nat_le e.offset c.args.offset) (always_returns_same _ _ _ (λ a r f k. search (rules, of_calls))) (parted c.args.edges.now c.args.offset c.requires))
