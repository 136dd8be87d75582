use Rattle.std.proofs.Common.{ap, arith, length}
use Rattle.lx_model.specs.declared.program.ProgramFunction.TheVariants.{Native}
use Rattle.lx_annotation_tables.proofs.Told.{entry_here, known_all}
use Rattle.lx_annotation_tables.proofs.sources.named_sources.Goals as goal

pub source_of-requires-clause-entry : goal.source_of-requires-clause-entry
source_of-requires-clause-entry c =
    entry_here c.args.program.now c.as_slice-entry-items.result.now c.loop-entry.entry-index (Native 0) c.requires.well_formed c.as_slice-entry-items.ensures c.loop-entry-test.true

pub returns : goal.returns
returns c =
    known_all c.args.program.now c.loop-entry.sources.items c.loop-entry.entry-index (omega (arith, c.loop-entry-test.false, ap length c.as_slice-entry-items.ensures)) c.loop-entry.invariant
