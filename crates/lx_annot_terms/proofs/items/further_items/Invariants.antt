use Rattle.std.proofs.Common.{◌≡◌, ◌≤◌, length, codes}
use Rattle.lx_annot_expressions.specs.Reading.{has, adding_at, steps_at}
use Rattle.lx_annot_terms.specs.ItemReading.{item_behind, most_further_items}
use Rattle.lx_annot_terms.proofs.items.further_items.Given as goal

abbrev pub invariant-loop-alloc : goal.invariant-loop-alloc
invariant-loop-alloc l = record {
  so_far : steps_at (has (codes ";")) (adding_at (item_behind l.scope l.known)) l.room l.items l.reader ≡ steps_at (has (codes ";")) (adding_at (item_behind l.scope l.known)) most_further_items l.fn.first l.fn.reader;
  shrinks : length l.reader ≤ length l.fn.reader;
}

abbrev pub decreases-loop-alloc : goal.decreases-loop-alloc
decreases-loop-alloc l = l.room
