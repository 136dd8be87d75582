use Rattle.std.proofs.Common.{◌≡◌, drop}
use Rattle.lx_ir.specs.Faults.{are_arguments}
use Rattle.lx_ir_verify.proofs.typing.are_arguments.Given as goal

abbrev pub invariant-loop-i : goal.invariant-loop-i
invariant-loop-i l = are_arguments l.arguments l.parameters ≡ are_arguments (drop l.i l.arguments) (drop l.i l.parameters)
