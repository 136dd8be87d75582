use Rattle.std.proofs.Common.{◌∙◌}
use Rattle.lx_propagate.proofs.Adding.{register_sum}
use Rattle.lx_propagate.proofs.stores.stored_sum.Goals as goal

pub returns-in-Register : goal.returns-in-Register
returns-in-Register c = λ all h.
    c.sum_at.ensures ∙ register_sum c.args.sums.now.interface c.args.sums.now.text c.args.registers.now.entries c.args.at c.in-Register.register all c.in-Register.is h
