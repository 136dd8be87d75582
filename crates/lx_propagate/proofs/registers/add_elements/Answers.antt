use Rattle.lx_ir.specs.declared.instr.Instr.{Instr}
use Rattle.lx_propagate.specs.Names.{element_sites}
use Rattle.lx_propagate.proofs.Adding.{adds_more}
use Rattle.lx_propagate.proofs.registers.add_elements.Goals as goal

pub loop-instr-preserved : goal.loop-instr-preserved
loop-instr-preserved c =
    adds_more c.args.sums.now.interface c.args.sums.now.text (λ (i : Instr). element_sites c.args.m.now.types i.op) c.args.instrs.now c.loop-instr.instr-index c.instr-item.result c.args.table.now.entries c.loop-instr.table.entries c.add_element.new.table.entries c.loop-instr-test.true c.instr-item.is c.loop-instr.invariant c.in_ok-add_element.ensures
