use Rattle.std.proofs.Common.{ap, ◌∙◌}
use Rattle.lx_code.specs.Parts.{element_in}
use Rattle.lx_code.proofs.TypeParts.{sized_element}
use Rattle.lx_code.proofs.Ways.{start_step, stride_step}
use Rattle.lx_code.proofs.routes.leg_of.Goals as goal

pub size_of-requires : goal.size_of-requires
size_of-requires c = sized_element c.args.text.now.types c.args.ty.now c.in-Some.element.now c.requires (c.in-Some.ensures ∙ ap element_in c.unnamed.ensures)

pub returns-in-Some-clause-sized : goal.returns-in-Some-clause-sized
returns-in-Some-clause-sized c = sized_element c.args.text.now.types c.args.ty.now c.in-Some.element.now c.requires (c.in-Some.ensures ∙ ap element_in c.unnamed.ensures)
