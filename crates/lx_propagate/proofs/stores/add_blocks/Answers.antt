use Rattle.std.proofs.Common.{subst}
use Rattle.std.specs.Prelude.{flat_map}
use Rattle.lx_ir.specs.declared.instr.Instr.{Instr}
use Rattle.lx_ir.specs.declared.module.Block.{Block}
use Rattle.lx_slot_types.specs.Sites.{store_sites}
use Rattle.lx_propagate.specs.Tables.{AddsStores}
use Rattle.lx_propagate.proofs.Adding.{stores_list_more}
use Rattle.lx_propagate.proofs.stores.add_blocks.Goals as goal

pub loop-block-preserved : goal.loop-block-preserved
loop-block-preserved c =
    let i = c.args.sums.now.interface in
    let m = c.args.sums.now.text in
    stores_list_more i m c.args.registers.now.entries (λ all (x : Instr). store_sites m all x.op) (λ (b : Block). b.instrs) c.args.blocks.now c.loop-block.block-index c.block-item.result c.args.table.now.entries c.loop-block.table.entries c.add_instrs.new.table.entries c.loop-block-test.true c.block-item.is c.loop-block.invariant
    (subst (λ xs. AddsStores i m c.args.registers.now.entries (λ all. flat_map (λ (x : Instr). store_sites m all x.op) xs) c.loop-block.table.entries c.add_instrs.new.table.entries) c.as_slice.ensures c.in_ok-add_instrs.ensures)
