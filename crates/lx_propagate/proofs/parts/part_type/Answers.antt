use Rattle.lx_slot_types.specs.Sites.{index_number}
use Rattle.lx_propagate.proofs.PartTypes.{element_part, field_part}
use Rattle.lx_propagate.proofs.parts.part_type.Goals as goal

pub returns-in-Some : goal.returns-in-Some
returns-in-Some c = element_part c.args.m.now.types c.args.t.now c.unnamed-outer.result.now c.in-Some.element.now (index_number c.args.index.now) c.unnamed-outer.ensures c.in-Some.ensures

pub returns-in-None : goal.returns-in-None
returns-in-None c = field_part c.args.m.now.types c.args.t.now c.unnamed-outer.result.now c.field_or_itself.result.now (index_number c.args.index.now) c.field_number.result c.unnamed-outer.ensures c.in-None.ensures c.field_number.ensures c.field_or_itself.ensures
