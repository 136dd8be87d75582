use Rattle.lx_annotation_tables.proofs.Rising.{is_there, is_not_there}
use Rattle.lx_annotation_tables.proofs.marked.is_annotated.Goals as goal

pub returns-in-Some : goal.returns-in-Some
returns-in-Some c = is_there c.args.function c.args.annotated.now c.in-Some.field-0.now c.in-Some.ensures

pub returns-in-None : goal.returns-in-None
returns-in-None c = is_not_there c.args.function c.args.annotated.now c.in-None.ensures
