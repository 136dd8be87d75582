use Rattle.std.proofs.Common.{◌≡◌, drop}
use Rattle.lx_ir.specs.Layout.{layout}
use Rattle.lx_ir.specs.TypeNodes.{types_of_list}
use Rattle.lx_ir_offsets.specs.Offsets.{field_after}
use Rattle.lx_ir_offsets.proofs.offset.field_after.Given as goal

abbrev pub invariant-loop-field : goal.invariant-loop-field
invariant-loop-field l = field_after l.layouts l.packed (types_of_list (drop l.field-index l.fields)) l.laid l.left ≡ field_after l.layouts l.packed (types_of_list l.fields) (layout 0 1) l.k
