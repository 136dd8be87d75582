use Rattle.lx_ir_complete.proofs.FirstFaults.{is_told, one_first, or_fault}
use Rattle.lx_ir_complete.proofs.first_fault_laws.Goals as goal

pub returns-clause-told : goal.returns-clause-told
returns-clause-told c = is_told c.module_is_read_laws.ensures.faulty c.refused_text_laws.ensures.nowhere

pub returns-clause-one : goal.returns-clause-one
returns-clause-one c = one_first c.module_laws.ensures.fault

pub returns-clause-answered : goal.returns-clause-answered
returns-clause-answered c = or_fault c.module_laws.ensures.found c.module_is_read_laws.ensures.faulty c.refused_text_laws.ensures.nowhere c.every_text_laws.ensures.answered
