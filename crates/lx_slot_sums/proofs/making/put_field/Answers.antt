use Rattle.lx_slot_sums.specs.Rows.{edges}
use Rattle.lx_slot_sums.proofs.Laying.{puts}
use Rattle.lx_slot_sums.proofs.making.put_field.Goals as goal

pub returns : goal.returns
returns c =
    puts c.args.sums.now c.args.all.now (edges c.args.row.now.done.items c.args.row.now.last) (edges c.move_to.new.self.done.items c.move_to.new.self.last) (edges c.put.new.self.done.items c.put.new.self.last) c.args.named c.sum_at.result c.join-sum.result c.sum_at-2.result c.args.field
    c.in_ok-move_to.ensures c.in_ok-put.ensures c.requires.ordered
    (λ fs ns gs p q r. c.join-sum.ensures _ _ (c.join-before.ensures _ _ p q) r)
    c.sum_at.ensures c.sum_at-2.ensures
