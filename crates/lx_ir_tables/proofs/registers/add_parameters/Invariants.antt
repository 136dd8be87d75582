use Rattle.std.proofs.Common.{◌≡◌, drop}
use Rattle.lx_ir_tables.specs.Registers.{with_parameters}
use Rattle.lx_ir_tables.proofs.registers.add_parameters.Given as goal

abbrev pub invariant-loop-param : goal.invariant-loop-param
invariant-loop-param l = with_parameters l.names l.registers (drop l.param-index l.params) ≡ with_parameters l.names l.fn.registers l.params
