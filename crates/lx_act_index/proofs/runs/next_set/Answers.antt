use Rattle.std.proofs.Common.{sym, subst}
use Rattle.lx_act_index.proofs.RunLemmas.{IsNext, next_from}
use Rattle.lx_act_index.proofs.runs.next_set.Goals as goal

pub returns-clause-none : goal.returns-clause-none
returns-clause-none c = (subst (IsNext c.args.mask c.args.from) (sym c.byte_or_end.ensures) (next_from c.first_byte.result c.bits_from.result c.args.mask c.args.from c.first_byte.ensures c.bits_from.ensures c.requires)).none
