use Rattle.lx_ir_instructions.proofs.InstructionLaws.{instructions_read, instructions_found}
use Rattle.lx_ir_instructions.proofs.instruction_laws.Goals as goal

pub returns-clause-read : goal.returns-clause-read
returns-clause-read c = instructions_read

pub returns-clause-found : goal.returns-clause-found
returns-clause-found c = instructions_found
