use Rattle.lx_annotation_tables.proofs.Rising.{rise_at}
use Rattle.lx_annotation_tables.proofs.Told.{module_told}
use Rattle.lx_annotation_tables.proofs.sources.module_source.Goals as goal

pub returns-in-Some : goal.returns-in-Some
returns-in-Some c =
    module_told c.args.program.now c.args.home c.args.function c.in-Some.list.now c.args.annotated.now c.slot_source.result c.requires.entry c.requires.annotated c.in-Some.ensures c.slot_source.ensures

pub slot_source-requires : goal.slot_source-requires
slot_source-requires c = rise_at c.args.program.now c.args.annotated.now c.args.home c.in-Some.list.now c.requires.annotated c.in-Some.ensures
