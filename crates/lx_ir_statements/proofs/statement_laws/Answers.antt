use Rattle.lx_ir_statements.proofs.Filled.{instr_filled}
use Rattle.lx_ir_statements.proofs.StatementLaws.{statement_again}
use Rattle.lx_ir_statements.proofs.StatementsFound.{statement_found}
use Rattle.lx_ir_statements.proofs.statement_laws.Goals as goal

pub returns-clause-read : goal.returns-clause-read
returns-clause-read c context form places defined s =
    statement_again context form places defined (record { read = c.instruction_laws.ensures.read context form; found = c.instruction_laws.ensures.found context form; some = instr_filled context form }) s

pub returns-clause-found : goal.returns-clause-found
returns-clause-found c context form places defined =
    statement_found context form places defined (record { read = c.instruction_laws.ensures.read context form; found = c.instruction_laws.ensures.found context form; some = instr_filled context form })
