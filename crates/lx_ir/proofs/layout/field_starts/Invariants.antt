use Rattle.std.proofs.Common.{◌≡◌, ◌++◌, drop}
use Rattle.lx_ir.specs.Layout.{layout}
use Rattle.lx_ir.specs.TypeNodes.{types_of_list}
use Rattle.lx_ir.specs.Fitting.{starts_in}
use Rattle.lx_ir.proofs.layout.field_starts.Given as goal

abbrev pub invariant-loop-field : goal.invariant-loop-field
invariant-loop-field l = l.starts ++ starts_in l.layouts l.packed (types_of_list (drop l.field-index l.fields)) l.laid ≡ starts_in l.layouts l.packed (types_of_list l.fields) (layout 0 1)
