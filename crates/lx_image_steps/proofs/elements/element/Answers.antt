use Rattle.std.proofs.Common.{◌≡◌, ℕ, ◌^◌, ap, sym, ◌∙◌, subst, IsTrue}
use Rattle.lx_words.specs.declared.word.Width.TheVariants.{W64}
use Rattle.lx_words.specs.Word.{Word, modulo, word_of_int}
use Rattle.lx_ir.specs.declared.module.Module.{Module}
use Rattle.lx_ir.specs.Layout.{element_offset}
use Rattle.std.specs.Prelude.{pos, ◌+ℤ◌}
use Rattle.lx_model.specs.Effect.{indices_of, operand, types_of, value_effect}
use Rattle.lx_ir.specs.Layout.{is_lawful_type}
use Rattle.lx_image_steps.specs.Standing.{run_of}
use Rattle.lx_image_steps.proofs.Parts.{based, word_below}
use Rattle.lx_image_steps.proofs.elements.element.Goals as goal

pub offset-requires : goal.offset-requires
offset-requires c =
    subst (λ (m : Module). IsTrue (is_lawful_type m.types c.args.ty.now)) (sym c.text_of-text.ensures) c.requires

pub returns : goal.returns
returns c to =
    let p = c.args.code.now.program in
    let a = run_of c.args.code.now c.args.run.now in
    let types = types_of p a in
    let base : c.base.inside.bits ≡ (operand p a c.args.base.now).bits = ap (λ (w : Word). w.bits) (c.base.view_is ∙ c.operand.ensures) in
    let z = element_offset types c.args.ty.now (indices_of p a c.args.indices.now) in
    let off : c.offset.result ≡ modulo z (2 ^ 64) =
    c.offset.ensures ∙ ap (λ (m : Module). modulo (element_offset m.types c.args.ty.now (indices_of p a c.args.indices.now)) (2 ^ 64)) c.text_of-text.ensures in
    ap (λ (n : ℕ). value_effect a (record { width = W64; bits = n })) (based c.base.inside.bits c.offset.result z (word_below c.base.inside.width c.base.inside.bits c.base.invariant) off)
    ∙ ap (λ (n : ℕ). value_effect a (word_of_int W64 (pos n +ℤ z))) base
