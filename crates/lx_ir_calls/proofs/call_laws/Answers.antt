use Rattle.lx_ir_calls.proofs.CallLaws.{calls_read, calls_found}
use Rattle.lx_ir_calls.proofs.call_laws.Goals as goal

pub returns-clause-read : goal.returns-clause-read
returns-clause-read c = calls_read

pub returns-clause-found : goal.returns-clause-found
returns-clause-found c = calls_found
