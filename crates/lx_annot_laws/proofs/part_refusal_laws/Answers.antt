use Rattle.lx_annot_laws.proofs.Local.{Same, steady}
use Rattle.lx_annot_laws.proofs.Lists.{items_plain}
use Rattle.lx_annot_laws.proofs.Clauses.{clauses_plain}
use Rattle.lx_annot_laws.proofs.Statements.{statement_plain}
use Rattle.lx_annot_laws.proofs.part_refusal_laws.Goals as goal

pub returns-clause-clauses : goal.returns-clause-clauses
returns-clause-clauses c sig known = steady Same _ (clauses_plain sig known)

pub returns-clause-items : goal.returns-clause-items
returns-clause-items c scope known = steady Same _ (items_plain scope known)

pub returns-clause-statements : goal.returns-clause-statements
returns-clause-statements c v line i = steady Same _ (statement_plain v line i)
