use Rattle.std.proofs.Common.{◌≡◌, drop}
use Rattle.lx_ir.specs.Faults.{first_some}
use Rattle.lx_link_texts.specs.Faults.{kernel_call_fault}
use Rattle.lx_link_texts.proofs.kernel.check_calls.Given as goal

abbrev pub invariant-loop-function : goal.invariant-loop-function
invariant-loop-function l = first_some kernel_call_fault l.kernel.functions ≡ first_some kernel_call_fault (drop l.function-index l.kernel.functions)
