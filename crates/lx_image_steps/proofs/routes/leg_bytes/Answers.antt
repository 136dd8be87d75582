use Rattle.std.proofs.Common.{◌∙◌, ◌^◌, ap, refl, sym, arith}
use Rattle.lx_words.specs.Word.{modulo, signed}
use Rattle.lx_code.specs.declared.routes.Leg.{Leg}
use Rattle.lx_code.specs.Routes.{leg_offset}
use Rattle.lx_image_steps.proofs.Parts.{product}
use Rattle.lx_image_steps.proofs.routes.leg_bytes.Goals as goal

pub returns-in-Stride : goal.returns-in-Stride
returns-in-Stride c =
    product (signed c.args.index) c.signed_bits.result c.in-Stride.size c.in-Stride.size c.signed_bits.ensures refl (omega arith)
    ∙ ap (λ (l : Leg). modulo (leg_offset l (signed c.args.index)) (2 ^ 64)) (sym c.in-Stride.is)
