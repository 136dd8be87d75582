use Rattle.std.proofs.Common.{◌≡◌, ◌∙◌, ap, sym, map}
use Rattle.lx_ir.specs.declared.types.NamedType.{NamedType}
use Rattle.lx_ir.specs.Fitting.{fit_type, fitting_layouts}
use Rattle.lx_ir.proofs.Passes.{settled}
use Rattle.lx_ir.proofs.layout.fitting_layouts.Goals as goal

pub returns-then-are_same : goal.returns-then-are_same
unfolding fitting_layouts
returns-then-are_same c =
    let same : c.in_ok-next.next ≡ c.loop.layouts = sym c.as_slice-in-loop.ensures ∙ c.are_same.ensures c.if-are_same.true ∙ c.as_slice-in-loop-2.ensures in
    let pass : c.in_ok-next.next ≡ map (λ (t : NamedType). fit_type c.loop.layouts t.ty) c.args.types.now = c.in_ok-next.ensures ∙ ap (λ ls. map (λ (t : NamedType). fit_type ls t.ty) c.args.types.now) c.as_slice.ensures in
    settled c.args.types.now c.loop.counter c.loop.layouts c.in_ok-next.next c.loop.invariant pass same c.loop-test.true
