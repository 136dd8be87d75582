use Rattle.lx_ir_complete.proofs.Modules.{module_is_read}
use Rattle.lx_ir_complete.proofs.module_is_read_laws.Goals as goal

pub returns-clause-read : goal.returns-clause-read
returns-clause-read c = module_is_read c.statement_laws.ensures.read c.block_laws.ensures.read c.forgotten_laws.ensures c.unlimited_laws.ensures

pub returns-clause-one : goal.returns-clause-one
returns-clause-one c form text a b first second =
    let read = module_is_read c.statement_laws.ensures.read c.block_laws.ensures.read c.forgotten_laws.ensures c.unlimited_laws.ensures in
    c.module_laws.ensures.module form text a b (read form text a first) (read form text b second)

pub returns-clause-faulty : goal.returns-clause-faulty
returns-clause-faulty c form text m f fault is =
    c.module_laws.ensures.apart form text m f (module_is_read c.statement_laws.ensures.read c.block_laws.ensures.read c.forgotten_laws.ensures c.unlimited_laws.ensures form text m is) fault
