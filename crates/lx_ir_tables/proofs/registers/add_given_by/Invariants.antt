use Rattle.std.proofs.Common.{◌≡◌, drop}
use Rattle.lx_ir_tables.specs.Registers.{with_given_by}
use Rattle.lx_ir_tables.proofs.registers.add_given_by.Given as goal

abbrev pub invariant-loop-instr : goal.invariant-loop-instr
invariant-loop-instr l = with_given_by l.registers (drop l.instr-index l.instrs) ≡ with_given_by l.fn.registers l.instrs
