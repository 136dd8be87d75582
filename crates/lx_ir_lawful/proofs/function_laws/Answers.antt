use Rattle.lx_ir_lawful.proofs.Functions.{functions_are_lawful, programs_have_no_lines}
use Rattle.lx_ir_lawful.proofs.function_laws.Goals as goal

pub returns-clause-lawful : goal.returns-clause-lawful
returns-clause-lawful c = functions_are_lawful

pub returns-clause-lines : goal.returns-clause-lines
returns-clause-lines c = programs_have_no_lines
