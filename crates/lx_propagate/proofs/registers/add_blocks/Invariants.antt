use Rattle.std.proofs.Common.{take}
use Rattle.std.specs.Prelude.{flat_map}
use Rattle.lx_propagate.specs.Names.{register_sites}
use Rattle.lx_propagate.specs.Tables.{Adds}
use Rattle.lx_propagate.proofs.registers.add_blocks.Given as goal

abbrev pub invariant-loop-block : goal.invariant-loop-block
invariant-loop-block l = Adds l.sums.interface l.sums.text (register_sites l.m.types (flat_map (λ b. b.instrs) (take l.block-index l.blocks))) l.fn.table.entries l.table.entries
