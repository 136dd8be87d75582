use Rattle.lx_ir_read.proofs.ModuleLaws.{one_module, one_fault, not_both, module_is_found}
use Rattle.lx_ir_read.proofs.reading.module_laws.Goals as goal

pub returns-clause-module : goal.returns-clause-module
returns-clause-module c = one_module c.readings.ensures

pub returns-clause-fault : goal.returns-clause-fault
returns-clause-fault c = one_fault c.readings.ensures

pub returns-clause-apart : goal.returns-clause-apart
returns-clause-apart c = not_both c.readings.ensures

pub returns-clause-found : goal.returns-clause-found
returns-clause-found c = module_is_found c.statement_laws.ensures.found
