use Rattle.std.proofs.Common.{ap, ◌∙◌, arith}
use Rattle.lx_words.specs.Word.{signed}
use Rattle.lx_code.specs.Parts.{element_in}
use Rattle.lx_code.proofs.TypeParts.{sized_element}
use Rattle.lx_image_steps.proofs.Parts.{element_part, other_part}
use Rattle.lx_image_steps.proofs.elements.part_of.Goals as goal

pub size_of-requires : goal.size_of-requires
size_of-requires c =
    sized_element c.args.text.now.types c.args.ty.now c.in-Some.element.now c.requires (c.in-Some.ensures ∙ ap element_in c.unnamed.ensures)

pub returns-in-Some-clause-part : goal.returns-in-Some-clause-part
returns-in-Some-clause-part c =
    element_part c.args.text.now.types c.args.ty.now c.in-Some.element.now (signed c.args.index) c.signed_bits.result c.size_of.result
    (c.in-Some.ensures ∙ ap element_in c.unnamed.ensures) c.signed_bits.ensures c.size_of.ensures (omega arith)

pub returns-in-Some-clause-sized : goal.returns-in-Some-clause-sized
returns-in-Some-clause-sized c =
    sized_element c.args.text.now.types c.args.ty.now c.in-Some.element.now c.requires (c.in-Some.ensures ∙ ap element_in c.unnamed.ensures)

pub returns-in-None-clause-part : goal.returns-in-None-clause-part
returns-in-None-clause-part c =
    other_part c.args.text.now.types c.args.ty.now c.field_named.result.ty.now (signed c.args.index) c.field_named.result.offset
    (c.in-None.ensures ∙ ap element_in c.unnamed.ensures) (omega arith) c.field_named.ensures.part
