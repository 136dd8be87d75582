use Rattle.lx_cap_lists.proofs.EntryLemmas.{bits_behind}
use Rattle.lx_cap_lists.proofs.entry.bits_from.Goals as goal

pub returns-then-from-lt64 : goal.returns-then-from-lt64
returns-then-from-lt64 c = λ k below. bits_behind c.args.mask c.between.result c.args.from k below (c.between.ensures k below)
