use Rattle.std.proofs.Common.{◌≡◌, drop}
use Rattle.lx_ir.specs.IrType.{depth, depths}
use Rattle.lx_ir.specs.Layout.{layout}
use Rattle.lx_ir.specs.TypeNodes.{types_of_list}
use Rattle.lx_ir.specs.Fitting.{fit_fields}
use Rattle.lx_ir.proofs.layout.+layout.Given as goal

abbrev pub decreases-fit_type : goal.decreases-fit_type
decreases-fit_type l = depth l.t.now

abbrev pub decreases-fit_fields : goal.decreases-fit_fields
decreases-fit_fields l = depths (types_of_list l.fields.now)

abbrev pub invariant-fit_fields-loop-field : goal.invariant-fit_fields-loop-field
invariant-fit_fields-loop-field l = fit_fields l.layouts l.packed (types_of_list (drop l.field-index l.fields)) l.laid ≡ fit_fields l.layouts l.packed (types_of_list l.fields) (layout 0 1)
