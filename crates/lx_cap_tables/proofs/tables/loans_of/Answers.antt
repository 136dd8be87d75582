use Rattle.lx_cap_tables.proofs.EndLemmas.{loan_at}
use Rattle.lx_cap_tables.proofs.tables.loans_of.Goals as goal

pub returns : goal.returns
returns c = loan_at c.args.loans.now.items c.args.thread c.index.result.now c.requires c.index.ensures
