use Rattle.std.specs.Prelude.{flat_map}
use Rattle.lx_ir.specs.declared.module.Block.{Block}
use Rattle.lx_propagate.proofs.Adding.{function_added}
use Rattle.lx_propagate.proofs.stores.add_body.Goals as goal

pub returns : goal.returns
returns c =
    function_added c.args.sums.now.interface c.args.sums.now.text c.args.m.now c.in_ok-registers.registers.entries (flat_map (λ (b : Block). b.instrs) c.args.blocks.now) c.args.table.now.entries c.add_blocks.new.table.entries c.requires c.in_ok-registers.ensures c.in_ok-add_blocks.ensures
