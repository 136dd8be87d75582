use Rattle.lx_annot_laws.proofs.StatementLaws.{statement_read, statement_found}
use Rattle.lx_annot_laws.proofs.interface_statement_laws.Goals as goal

pub returns-clause-read : goal.returns-clause-read
returns-clause-read c v line i s ts us h l is = statement_read v i line s ts us h l is

pub returns-clause-found : goal.returns-clause-found
returns-clause-found c v line i j ts us r = let f = statement_found v i line j ts us r in (f.statement, f.in_line, f.made, f.front, f.is, f.whole)
