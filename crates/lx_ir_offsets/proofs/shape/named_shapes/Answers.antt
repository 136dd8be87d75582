use Rattle.std.proofs.Common.{◌≡◌, ◌∙◌, ap, sym, map}
use Rattle.lx_ir.specs.declared.types.NamedType.{NamedType}
use Rattle.lx_ir_offsets.specs.Shapes.{shape_of}
use Rattle.lx_ir_offsets.proofs.Passes.{settled}
use Rattle.lx_ir_offsets.proofs.shape.named_shapes.Goals as goal

pub returns-then-are_same : goal.returns-then-are_same
returns-then-are_same c =
    let same : c.in_ok-next.next ≡ c.loop.shapes = sym c.as_slice-in-loop.ensures ∙ c.are_same.ensures c.if-are_same.true ∙ c.as_slice-in-loop-2.ensures in
    let pass : c.in_ok-next.next ≡ map (λ (t : NamedType). shape_of c.loop.shapes t.ty) c.args.types.now = c.in_ok-next.ensures ∙ ap (λ shapes. map (λ (t : NamedType). shape_of shapes t.ty) c.args.types.now) c.as_slice.ensures in
    settled c.args.types.now c.loop.counter c.loop.shapes c.in_ok-next.next c.loop.invariant pass same c.loop-test.true
