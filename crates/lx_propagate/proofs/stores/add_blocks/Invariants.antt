use Rattle.std.proofs.Common.{take}
use Rattle.std.specs.Prelude.{flat_map}
use Rattle.lx_slot_types.specs.Sites.{store_sites}
use Rattle.lx_propagate.specs.Tables.{AddsStores}
use Rattle.lx_propagate.proofs.stores.add_blocks.Given as goal

abbrev pub invariant-loop-block : goal.invariant-loop-block
invariant-loop-block l = AddsStores l.sums.interface l.sums.text l.registers.entries (λ all. flat_map (λ i. store_sites l.sums.text all i.op) (flat_map (λ b. b.instrs) (take l.block-index l.blocks))) l.fn.table.entries l.table.entries
