use Rattle.std.proofs.Common.{◌≡◌, drop}
use Rattle.lx_ir.specs.Faults.{first_some}
use Rattle.lx_link.specs.Calls.{argument_fault}
use Rattle.lx_link.proofs.calls.check_arguments.Given as goal

abbrev pub invariant-loop-argument : goal.invariant-loop-argument
invariant-loop-argument l = first_some (argument_fault l.names l.line) l.arguments ≡ first_some (argument_fault l.names l.line) (drop l.argument-index l.arguments)
