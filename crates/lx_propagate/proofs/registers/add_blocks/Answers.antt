use Rattle.std.proofs.Common.{subst}
use Rattle.lx_ir.specs.declared.instr.Instr.{Instr}
use Rattle.lx_ir.specs.declared.module.Block.{Block}
use Rattle.lx_propagate.specs.Names.{element_sites, register_sites}
use Rattle.lx_propagate.specs.Tables.{Adds}
use Rattle.lx_propagate.proofs.Adding.{adds_list_more}
use Rattle.lx_propagate.proofs.registers.add_blocks.Goals as goal

pub loop-block-preserved : goal.loop-block-preserved
loop-block-preserved c =
    adds_list_more c.args.sums.now.interface c.args.sums.now.text (λ (i : Instr). element_sites c.args.m.now.types i.op) (λ (b : Block). b.instrs) c.args.blocks.now c.loop-block.block-index c.block-item.result c.args.table.now.entries c.loop-block.table.entries c.add_elements.new.table.entries c.loop-block-test.true c.block-item.is c.loop-block.invariant
    (subst (λ is. Adds c.args.sums.now.interface c.args.sums.now.text (register_sites c.args.m.now.types is) c.loop-block.table.entries c.add_elements.new.table.entries) c.as_slice.ensures c.in_ok-add_elements.ensures)
