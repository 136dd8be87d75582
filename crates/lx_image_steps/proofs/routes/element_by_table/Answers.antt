use Rattle.std.proofs.Common.{◌≡◌, ◌∙◌, ap, sym, List, Some}
use Rattle.lx_ir.specs.declared.instr.Argument.{Argument}
use Rattle.lx_ir.specs.declared.instr.Op.{Op}
use Rattle.lx_ir.specs.declared.instr.Op.TheVariants as op
use Rattle.lx_ir.specs.Layout.{element_offset}
use Rattle.lx_code.specs.Routes.{route_offset}
use Rattle.lx_model.specs.Effect.{effect, indices_of, types_of}
use Rattle.lx_image_steps.specs.Standing.{run_of}
use Rattle.lx_image_steps.proofs.routes.element_by_table.Goals as goal

pub returns-in-Some : goal.returns-in-Some
returns-in-Some c =
    let p = c.args.code.now.program in
    let a = run_of c.args.code.now c.args.run.now in
    let to = c.in-GetElementPtr.to in
    let ty = c.in-GetElementPtr.ty in
    let base = c.in-GetElementPtr.base in
    let indices = c.in-GetElementPtr.indices in
    let route = c.in-Some.route.now in
    let here : c.args.op.now ≡ op.GetElementPtr to ty base indices = c.in-GetElementPtr.is in
    let goes : element_offset (types_of p a) ty (indices_of p a indices) ≡ route_offset route (indices_of p a indices) =
    c.in-Some.ensures to ty base indices (c.requires ∙ ap (λ (o : Op). Some o) here) a in
    let same = c.as_slice.ensures in
    c.element_along.ensures to ty
    (ap (λ (xs : List Argument). element_offset (types_of p a) ty (indices_of p a xs)) same ∙ goes ∙ ap (λ (xs : List Argument). route_offset route (indices_of p a xs)) (sym same))
    ∙ ap (λ (xs : List Argument). effect p a (op.GetElementPtr to ty base xs)) same
    ∙ ap (effect p a) (sym here)
