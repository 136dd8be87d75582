use Rattle.std.proofs.Common.{Option, drop}
use Rattle.lx_ir.specs.Faults.{Fault, FirstOfFunctions}
use Rattle.lx_ir_verify.proofs.order.check_functions.Given as goal

abbrev pub invariant-loop-f : goal.invariant-loop-f
invariant-loop-f l = (r : Option Fault) → FirstOfFunctions l.m (drop l.f-index l.m.functions) r → FirstOfFunctions l.m l.m.functions r
