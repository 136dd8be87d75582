use Rattle.std.proofs.Common.{◌≤◌, length}
use Rattle.lx_annot_terms.specs.Clauses.{begins_clause, clause_at, written_at}
use Rattle.lx_annot_terms.proofs.Steps.{Stepping}
use Rattle.lx_annot_terms.proofs.clauses.written_clauses.Given as goal

abbrev pub invariant-loop-alloc : goal.invariant-loop-alloc
invariant-loop-alloc l = record {
  so_far : Stepping begins_clause (clause_at l.signature l.known) l.annotation l.reader (written_at l.signature l.known l.fn.reader);
  shrinks : length l.reader ≤ length l.fn.reader;
}

abbrev pub decreases-loop-alloc : goal.decreases-loop-alloc
decreases-loop-alloc l = length l.reader
