use Rattle.std.proofs.Common.{◌≡◌, take, map}
use Rattle.lx_ir_offsets.specs.Shapes.{endless}
use Rattle.lx_ir_offsets.proofs.shape.endless_shapes.Given as goal

abbrev pub invariant-loop : goal.invariant-loop
invariant-loop l = l.shapes ≡ map (λ e. endless) (take l.index l.types)
