use Rattle.lx_cap_lists.proofs.NextBit.{ends}
use Rattle.lx_cap_lists.proofs.mask.run_end.Goals as goal

pub returns-clause-some : goal.returns-clause-some
returns-clause-some c = (ends c.args.mask c.args.from c.next_set.result c.unwrap_or.result c.ranges.mask.fits c.requires.within c.requires.begins c.next_set.ensures c.unwrap_or.ensures).some

pub returns-clause-run : goal.returns-clause-run
returns-clause-run c = (ends c.args.mask c.args.from c.next_set.result c.unwrap_or.result c.ranges.mask.fits c.requires.within c.requires.begins c.next_set.ensures c.unwrap_or.ensures).run
