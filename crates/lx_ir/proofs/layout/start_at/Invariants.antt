use Rattle.std.proofs.Common.{◌≡◌, ◌-◌, ◌≤◌, drop, slice_get}
use Rattle.lx_ir.specs.Layout.{layout}
use Rattle.lx_ir.specs.TypeNodes.{types_of_list}
use Rattle.lx_ir.specs.Fitting.{starts_in}
use Rattle.lx_ir.proofs.layout.start_at.Given as goal

abbrev pub invariant-loop-k : goal.invariant-loop-k
invariant-loop-k l = (l.k ≤ l.number) × (slice_get (starts_in l.layouts l.packed (types_of_list (drop l.k l.fields)) l.laid) (l.number - l.k) ≡ slice_get (starts_in l.layouts l.packed (types_of_list l.fields) (layout 0 1)) l.number)
