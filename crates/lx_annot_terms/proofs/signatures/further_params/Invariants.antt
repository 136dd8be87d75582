use Rattle.std.proofs.Common.{◌≤◌, length, codes}
use Rattle.lx_annot_expressions.specs.Reading.{has, adding_at, steps_at}
use Rattle.lx_annot_terms.specs.Signatures.{param_behind}
use Rattle.lx_annot_terms.proofs.Steps.{Stepping}
use Rattle.lx_annot_terms.proofs.signatures.further_params.Given as goal

abbrev pub invariant-loop-alloc : goal.invariant-loop-alloc
invariant-loop-alloc l = record {
  so_far : Stepping (has (codes ",")) (adding_at param_behind) l.params l.reader (steps_at (has (codes ",")) (adding_at param_behind) (length l.fn.reader) l.fn.first l.fn.reader);
  shrinks : length l.reader ≤ length l.fn.reader;
}

abbrev pub decreases-loop-alloc : goal.decreases-loop-alloc
decreases-loop-alloc l = length l.reader
