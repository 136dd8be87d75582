use Rattle.std.proofs.Common.{◌≡◌, take, map}
use Rattle.lx_ir_offsets.specs.Shapes.{shape_of}
use Rattle.lx_ir_offsets.proofs.shape.next_shapes.Given as goal

abbrev pub invariant-loop-named : goal.invariant-loop-named
invariant-loop-named l = l.next ≡ map (λ e. shape_of l.shapes e.ty) (take l.named-index l.types)
