use Rattle.lx_ir_complete.proofs.Scanned.{scanned, seen}
use Rattle.lx_ir_complete.proofs.lexeme_laws.Goals as goal

pub returns-clause-scanned : goal.returns-clause-scanned
returns-clause-scanned c = scanned

pub returns-clause-seen : goal.returns-clause-seen
returns-clause-seen c = seen
