use Rattle.lx_ir_complete.proofs.Known.{known, registers_known}
use Rattle.lx_ir_complete.proofs.Numbered.{registers_numbered}
use Rattle.lx_ir_complete.proofs.table_laws.Goals as goal

pub returns-clause-known : goal.returns-clause-known
returns-clause-known c = known

pub returns-clause-registers : goal.returns-clause-registers
returns-clause-registers c = registers_known

pub returns-clause-numbered : goal.returns-clause-numbered
returns-clause-numbered c = registers_numbered
