use Rattle.std.proofs.Common.{◌≡◌, take}
use Rattle.lx_annot_read.specs.Parts.{names_of_iterators}
use Rattle.lx_annot_read.proofs.parts.table_of_iterators.Given as goal

abbrev pub invariant-loop-iterator : goal.invariant-loop-iterator
invariant-loop-iterator l = l.table ≡ take l.iterator-index (names_of_iterators l.iterators)
