use Rattle.lx_ir.specs.declared.instr.Instr.{Instr}
use Rattle.lx_slot_types.specs.Sites.{store_sites}
use Rattle.lx_propagate.proofs.Adding.{stores_more}
use Rattle.lx_propagate.proofs.stores.add_instrs.Goals as goal

pub loop-instr-preserved : goal.loop-instr-preserved
loop-instr-preserved c =
    stores_more c.args.sums.now.interface c.args.sums.now.text c.args.registers.now.entries (λ all (i : Instr). store_sites c.args.sums.now.text all i.op) c.args.instrs.now c.loop-instr.instr-index c.instr-item.result c.args.table.now.entries c.loop-instr.table.entries c.add_instr.new.table.entries c.loop-instr-test.true c.instr-item.is c.loop-instr.invariant c.in_ok-add_instr.ensures
