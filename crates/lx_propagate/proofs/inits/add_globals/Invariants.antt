use Rattle.std.proofs.Common.{take}
use Rattle.std.specs.Prelude.{flat_map}
use Rattle.lx_slot_types.specs.Sites.{init_sites}
use Rattle.lx_propagate.specs.Tables.{Adds}
use Rattle.lx_propagate.proofs.inits.add_globals.Given as goal

abbrev pub invariant-loop-global : goal.invariant-loop-global
invariant-loop-global l = Adds l.sums.interface l.sums.text (flat_map (λ g. init_sites g.ty g.init) (take l.global-index l.globals)) l.fn.table.entries l.table.entries
