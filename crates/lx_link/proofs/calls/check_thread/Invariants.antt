use Rattle.std.proofs.Common.{◌≡◌, drop}
use Rattle.lx_ir.specs.Faults.{first_some}
use Rattle.lx_link.specs.Calls.{call_fault}
use Rattle.lx_link.proofs.calls.check_thread.Given as goal

abbrev pub invariant-loop-call : goal.invariant-loop-call
invariant-loop-call l = first_some (call_fault l.names) l.calls ≡ first_some (call_fault l.names) (drop l.call-index l.calls)
