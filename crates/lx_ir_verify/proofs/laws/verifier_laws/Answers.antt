use Rattle.lx_ir_verify.proofs.OneFault.{one_first_fault, reads_are_assigned}
use Rattle.lx_ir_verify.proofs.laws.verifier_laws.Goals as goal

pub returns : goal.returns
returns c = record { one = one_first_fault; assigned = reads_are_assigned }
