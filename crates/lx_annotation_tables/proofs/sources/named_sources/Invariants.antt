use Rattle.std.proofs.Common.{◌≡◌, map, take}
use Rattle.lx_annotation_tables.specs.Entries.{annotation_by, annotation_of}
use Rattle.lx_annotation_tables.proofs.sources.named_sources.Given as goal

abbrev pub invariant-loop-entry : goal.invariant-loop-entry
invariant-loop-entry l = map (annotation_by l.program) l.sources.items ≡ map (annotation_of l.program) (take l.entry-index l.program.functions)
