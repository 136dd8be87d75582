use Rattle.lx_ir_statements.proofs.Filled.{instr_filled}
use Rattle.lx_ir_statements.proofs.BlockLaws.{body_again, body_found}
use Rattle.lx_ir_statements.proofs.block_laws.Goals as goal

pub returns-clause-read : goal.returns-clause-read
returns-clause-read c context form places numbered registers bs =
    body_again context form (record { read = c.instruction_laws.ensures.read context form; found = c.instruction_laws.ensures.found context form; some = instr_filled context form }) places numbered registers bs

pub returns-clause-found : goal.returns-clause-found
returns-clause-found c context form places numbered registers =
    body_found context form (record { read = c.instruction_laws.ensures.read context form; found = c.instruction_laws.ensures.found context form; some = instr_filled context form }) places numbered registers
