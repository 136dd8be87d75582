use Rattle.std.proofs.Common.{◌≡◌, drop}
use Rattle.lx_ir_tables.specs.Registers.{with_all_read}
use Rattle.lx_ir_tables.proofs.registers.add_all_read.Given as goal

abbrev pub invariant-loop-block : goal.invariant-loop-block
invariant-loop-block l = with_all_read l.lines l.registers (drop l.block-index l.blocks) ≡ with_all_read l.lines l.fn.registers l.blocks
