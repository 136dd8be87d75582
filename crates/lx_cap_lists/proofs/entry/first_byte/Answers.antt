use Rattle.std.proofs.Common.{arith}
use Rattle.lx_cap_lists.proofs.EntryLemmas.{first_of_part}
use Rattle.lx_cap_lists.proofs.entry.first_byte.Goals as goal

pub returns-else-bits-eq0 : goal.returns-else-bits-eq0
returns-else-bits-eq0 c = first_of_part c.args.part c.args.bits c.if-bits-eq0.false (omega arith)
