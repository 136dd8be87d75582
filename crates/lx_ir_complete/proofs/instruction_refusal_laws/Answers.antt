use Rattle.std.proofs.Common.{true, refl}
use Rattle.lx_ir_complete.proofs.Local.{Same, stops_there}
use Rattle.lx_ir_complete.proofs.RefusedCalls.{tail_call_plain}
use Rattle.lx_ir_complete.proofs.RefusedForms.{instruction_plain}
use Rattle.lx_ir_complete.proofs.instruction_refusal_laws.Goals as goal

pub returns-clause-calls : goal.returns-clause-calls
returns-clause-calls c context free form to ts fault e = stops_there (λ k. true) Same _ (tail_call_plain (λ k. true) context free form to) ts fault refl e

pub returns-clause-instructions : goal.returns-clause-instructions
returns-clause-instructions c context free form ts fault e = stops_there (λ k. true) Same _ (instruction_plain (λ k. true) context free form) ts fault refl e
