use Rattle.std.proofs.Common.{◌≡◌, drop}
use Rattle.lx_ir_tables.specs.Registers.{with_operands}
use Rattle.lx_ir_tables.proofs.registers.add_operands.Given as goal

abbrev pub invariant-loop-operand : goal.invariant-loop-operand
invariant-loop-operand l = with_operands l.registers (drop l.operand-index l.operands) ≡ with_operands l.fn.registers l.operands
