use Rattle.lx_ir_lawful.proofs.Constants.{written_lawful, constant_lawful}
use Rattle.lx_ir_lawful.proofs.Initialisers.{init_lawful}
use Rattle.lx_ir_lawful.proofs.term_laws.Goals as goal

pub returns-clause-written : goal.returns-clause-written
returns-clause-written c = λ m context tells. written_lawful m context tells c.limit_laws.ensures

pub returns-clause-constants : goal.returns-clause-constants
returns-clause-constants c = λ m context tells depth ty k ts h. let l = constant_lawful m context tells depth ty k ts h in (l.lawful, l.nesting)

pub returns-clause-inits : goal.returns-clause-inits
returns-clause-inits c = λ m context tells depth ty i ts h. let l = init_lawful m context tells (written_lawful m context tells c.limit_laws.ensures) depth ty i ts h in (l.lawful, l.nesting)
