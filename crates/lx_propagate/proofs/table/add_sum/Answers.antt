use Rattle.std.proofs.Common.{◌∙◌}
use Rattle.lx_propagate.proofs.Adding.{joined}
use Rattle.lx_propagate.proofs.table.add_sum.Goals as goal

pub returns : goal.returns
returns c = λ names is.
    joined c.args.sums.now.interface c.args.sums.now.text c.args.number names c.args.table.now.entries c.put_sum.new.table.entries c.args.sum c.join-joined.result c.in_ok-put_sum.ensures
    (λ xs ys p q. c.join-joined.ensures xs ys (c.sum_at.ensures ∙ p) q) is
