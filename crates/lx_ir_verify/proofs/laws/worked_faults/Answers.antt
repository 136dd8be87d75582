use Rattle.lx_ir_verify.proofs.RowProofs.{worked}
use Rattle.lx_ir_verify.proofs.laws.worked_faults.Goals as goal

pub returns : goal.returns
returns c = worked
