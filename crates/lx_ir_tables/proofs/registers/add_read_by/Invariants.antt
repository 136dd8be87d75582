use Rattle.std.proofs.Common.{◌≡◌, drop}
use Rattle.lx_ir_tables.specs.Registers.{with_read_by}
use Rattle.lx_ir_tables.proofs.registers.add_read_by.Given as goal

abbrev pub invariant-loop-instr : goal.invariant-loop-instr
invariant-loop-instr l = with_read_by l.lines l.registers (drop l.instr-index l.instrs) ≡ with_read_by l.lines l.fn.registers l.instrs
