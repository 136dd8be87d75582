use Rattle.std.proofs.Common.{take}
use Rattle.lx_propagate.specs.Names.{register_sites}
use Rattle.lx_propagate.specs.Tables.{Adds}
use Rattle.lx_propagate.proofs.registers.add_elements.Given as goal

abbrev pub invariant-loop-instr : goal.invariant-loop-instr
invariant-loop-instr l = Adds l.sums.interface l.sums.text (register_sites l.m.types (take l.instr-index l.instrs)) l.fn.table.entries l.table.entries
