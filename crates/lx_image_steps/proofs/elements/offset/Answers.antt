use Rattle.std.proofs.Common.{◌^◌, ap, sym, ◌∙◌, arith, List}
use Rattle.lx_words.specs.Word.{Word, signed, modulo}
use Rattle.lx_ir.specs.declared.instr.Argument.{Argument}
use Rattle.lx_ir.specs.Layout.{element_offset}
use Rattle.lx_model.specs.Effect.{indices_of, operand}
use Rattle.lx_image_steps.specs.Standing.{run_of}
use Rattle.lx_image_steps.proofs.Parts.{address}
use Rattle.lx_image_steps.proofs.elements.offset.Goals as goal

pub size_of-requires : goal.size_of-requires
size_of-requires c = c.requires

pub returns-in-Some : goal.returns-in-Some
returns-in-Some c =
    let p = c.args.code.now.program in
    let a = run_of c.args.code.now c.args.run.now in
    let types = c.args.text.now.types in
    address types c.args.ty.now c.size_of.result c.signed_bits-count.result c.inner_offset.result (signed (operand p a c.in-Some.first.now.value)) (indices_of p a c.in-Some.others.now)
    (c.signed_bits-count.ensures ∙ ap (λ (w : Word). modulo (signed w) (2 ^ 64)) c.operand.ensures) c.size_of.ensures (omega arith) c.inner_offset.ensures
    ∙ ap (λ (xs : List Argument). modulo (element_offset types c.args.ty.now (indices_of p a xs)) (2 ^ 64)) (sym c.in-Some.ensures.cases.0)
