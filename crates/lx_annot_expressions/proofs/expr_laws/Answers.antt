use Rattle.lx_annot_expressions.proofs.ExprFinds.{expr_found}
use Rattle.lx_annot_expressions.proofs.ExprReads.{expr_read}
use Rattle.lx_annot_expressions.proofs.expr_laws.Goals as goal

pub returns-clause-read : goal.returns-clause-read
returns-clause-read c scope e ts us closes is = expr_read scope e ts us closes is

pub returns-clause-found : goal.returns-clause-found
returns-clause-found c = expr_found
