use Rattle.lx_ir.proofs.Layouts.{type_align}
use Rattle.lx_opening.proofs.inits.start_behind.Goals as goal

pub next_multiple_of-requires-clause-nonzero : goal.next_multiple_of-requires-clause-nonzero
next_multiple_of-requires-clause-nonzero c = rw c.align_of.ensures (type_align c.args.text.now.types c.args.ty.now)
