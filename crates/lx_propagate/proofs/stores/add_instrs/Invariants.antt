use Rattle.std.proofs.Common.{take}
use Rattle.std.specs.Prelude.{flat_map}
use Rattle.lx_slot_types.specs.Sites.{store_sites}
use Rattle.lx_propagate.specs.Tables.{AddsStores}
use Rattle.lx_propagate.proofs.stores.add_instrs.Given as goal

abbrev pub invariant-loop-instr : goal.invariant-loop-instr
invariant-loop-instr l = AddsStores l.sums.interface l.sums.text l.registers.entries (λ all. flat_map (λ i. store_sites l.sums.text all i.op) (take l.instr-index l.instrs)) l.fn.table.entries l.table.entries
