use Rattle.std.proofs.Common.{◌≡◌, ℕ, ◌^◌, ap, sym, ◌∙◌}
use Rattle.std.specs.Prelude.{pos, ◌+ℤ◌}
use Rattle.lx_words.specs.declared.word.Width.TheVariants.{W64}
use Rattle.lx_words.specs.Word.{Word, modulo, word_of_int}
use Rattle.lx_ir.specs.Layout.{element_offset}
use Rattle.lx_model.specs.Effect.{indices_of, operand, types_of, value_effect}
use Rattle.lx_image_steps.specs.Standing.{run_of}
use Rattle.lx_image_steps.proofs.Parts.{based, word_below}
use Rattle.lx_image_steps.proofs.routes.element_along.Goals as goal

pub returns : goal.returns
returns c to ty same =
    let p = c.args.code.now.program in
    let a = run_of c.args.code.now c.args.run.now in
    let z = element_offset (types_of p a) ty (indices_of p a c.args.indices.now) in
    let base : c.base.inside.bits ≡ (operand p a c.args.base.now).bits = ap (λ (w : Word). w.bits) (c.base.view_is ∙ c.operand.ensures) in
    let off : c.route_bytes.result ≡ modulo z (2 ^ 64) = c.route_bytes.ensures ∙ ap (λ y. modulo y (2 ^ 64)) (sym same) in
    ap (λ (n : ℕ). value_effect a (record { width = W64; bits = n })) (based c.base.inside.bits c.route_bytes.result z (word_below c.base.inside.width c.base.inside.bits c.base.invariant) off)
    ∙ ap (λ (n : ℕ). value_effect a (word_of_int W64 (pos n +ℤ z))) base
