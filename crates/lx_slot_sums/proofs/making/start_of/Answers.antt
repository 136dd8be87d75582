use Rattle.lx_ir.proofs.Layouts.{type_align}
use Rattle.lx_slot_sums.proofs.making.start_of.Goals as goal

pub next_multiple_of-requires-clause-nonzero : goal.next_multiple_of-requires-clause-nonzero
next_multiple_of-requires-clause-nonzero c = rw c.align_of.ensures (type_align c.args.m.now.types c.args.field.now)
