use Rattle.std.proofs.Common.{take}
use Rattle.std.specs.Prelude.{flat_map}
use Rattle.lx_ir.specs.Lookup.{instrs_of}
use Rattle.lx_slot_types.specs.Sites.{function_sites}
use Rattle.lx_propagate.specs.Tables.{Adds}
use Rattle.lx_propagate.proofs.stores.add_functions.Given as goal

abbrev pub invariant-loop-function : goal.invariant-loop-function
invariant-loop-function l = Adds l.sums.interface l.m (flat_map (λ f. function_sites l.m (instrs_of f)) (take l.function-index l.functions)) l.fn.table.entries l.table.entries
