use Rattle.std.proofs.Common.{◌∙◌, ◌^◌, ap, sym, arith, List}
use Rattle.lx_words.specs.Word.{Word, signed, modulo}
use Rattle.lx_ir.specs.declared.instr.Argument.{Argument}
use Rattle.lx_model.specs.Effect.{indices_of, operand}
use Rattle.lx_code.specs.declared.routes.Leg.{Leg}
use Rattle.lx_code.specs.Routes.{legs_offset, route_offset}
use Rattle.lx_image_steps.specs.Standing.{run_of}
use Rattle.lx_image_steps.proofs.Legs.{route_gone}
use Rattle.lx_image_steps.proofs.routes.route_bytes.Goals as goal

pub returns-in-Some : goal.returns-in-Some
returns-in-Some c =
    let p = c.args.code.now.program in
    let a = run_of c.args.code.now c.args.run.now in
    let r = c.args.route.now in
    let zs = indices_of p a c.in-Some.others.now in
    route_gone r c.signed_bits-count.result c.legs_bytes.result (signed (operand p a c.in-Some.first.now.value)) zs
    (c.signed_bits-count.ensures ∙ ap (λ (w : Word). modulo (signed w) (2 ^ 64)) c.operand.ensures) (omega arith)
    (c.legs_bytes.ensures ∙ ap (λ (ls : List Leg). modulo (legs_offset ls zs) (2 ^ 64)) c.as_slice.ensures)
    ∙ ap (λ (xs : List Argument). modulo (route_offset r (indices_of p a xs)) (2 ^ 64)) (sym c.in-Some.ensures.cases.0)
