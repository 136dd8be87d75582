use Rattle.std.proofs.Common.{◌∙◌, ◌&&◌, nat_eq, cond, Some}
use Rattle.lx_slot_sums.specs.Fields.{at_field}
use Rattle.lx_slot_sums.proofs.typed.put_sum.Goals as goal

pub returns : goal.returns
returns c = λ n k.
    c.in_ok-insert.ensures.updates.0 (n, k)
    ∙ (λ j. cond (nat_eq c.args.name n && nat_eq (c.from.ensures j) k) (Some c.args.sum) (at_field c.args.table.now.entries n k))
