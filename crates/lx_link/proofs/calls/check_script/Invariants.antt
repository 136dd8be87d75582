use Rattle.std.proofs.Common.{◌≡◌, drop}
use Rattle.lx_ir.specs.Faults.{first_some}
use Rattle.lx_link.specs.Calls.{thread_fault}
use Rattle.lx_link.proofs.calls.check_script.Given as goal

abbrev pub invariant-loop-calls : goal.invariant-loop-calls
invariant-loop-calls l = first_some (thread_fault l.names) l.threads ≡ first_some (thread_fault l.names) (drop l.calls-index l.threads)
