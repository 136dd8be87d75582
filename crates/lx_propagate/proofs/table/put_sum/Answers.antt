use Rattle.std.proofs.Common.{ap, ◌∙◌, nat_eq}
use Rattle.std.specs.Map.{lookup}
use Rattle.lx_slot_sums.specs.Sums.{sum_or_none}
use Rattle.lx_propagate.proofs.Adding.{put_is}
use Rattle.lx_propagate.proofs.table.put_sum.Goals as goal

pub returns : goal.returns
returns c = λ n.
    ap sum_or_none (c.in_ok-insert.ensures.updates.0 n)
    ∙ put_is (nat_eq c.args.number n) c.args.sum (lookup (nat_eq n) c.args.table.now.entries)
