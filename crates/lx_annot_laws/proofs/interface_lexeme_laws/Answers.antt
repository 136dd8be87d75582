use Rattle.lx_annot_laws.proofs.Scanned.{scanned, placed}
use Rattle.lx_annot_laws.proofs.interface_lexeme_laws.Goals as goal

pub returns-clause-scanned : goal.returns-clause-scanned
returns-clause-scanned c = scanned

pub returns-clause-placed : goal.returns-clause-placed
returns-clause-placed c = placed
