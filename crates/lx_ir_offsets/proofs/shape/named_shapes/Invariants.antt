use Rattle.std.proofs.Common.{◌≡◌}
use Rattle.lx_ir_offsets.specs.Shapes.{shapes_through}
use Rattle.lx_ir_offsets.proofs.shape.named_shapes.Given as goal

abbrev pub invariant-loop : goal.invariant-loop
invariant-loop l = l.shapes ≡ shapes_through l.types l.counter
