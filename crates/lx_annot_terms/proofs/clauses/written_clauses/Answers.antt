use Rattle.std.proofs.Common.{◌∙◌, sym, arith}
use Rattle.std.proofs.lemmas.Result.{err_from_is_err_and}
use Rattle.lx_annot_terms.specs.Clauses.{begins_clause, clause_at}
use Rattle.lx_annot_terms.proofs.Steps.{steps_go_on, steps_fail, steps_done}
use Rattle.lx_annot_terms.proofs.ClauseSteps.{clauses_begin, clause_shorter}
use Rattle.lx_annot_terms.proofs.clauses.written_clauses.Goals as goal

pub loop-alloc-init : goal.loop-alloc-init
loop-alloc-init c = record {
  so_far = clauses_begin c.args.signature.now c.args.known.now c.empty_annotation-annotation.result c.args.reader.now c.empty_annotation-annotation.ensures;
  shrinks = omega arith;
}

pub loop-alloc-preserved : goal.loop-alloc-preserved
loop-alloc-preserved c =
    let h = sym c.begins_clause.ensures ∙ c.loop-alloc-test.true in
    let s = clause_shorter c.loop-alloc.reader h in
    record {
      so_far = steps_go_on begins_clause (clause_at c.args.signature.now c.args.known.now) c.loop-alloc.annotation c.clause.new.annotation c.loop-alloc.reader c.clause.new.reader _ c.loop-alloc.invariant.so_far h c.in_ok-clause.ensures.reads (omega (arith, s, c.in_ok-clause.ensures.shrinks));
      shrinks = omega (arith, s, c.in_ok-clause.ensures.shrinks, c.loop-alloc.invariant.shrinks);
    }

pub returns-in_err-clause-clause-reads : goal.returns-in_err-clause-clause-reads
returns-in_err-clause-clause-reads c =
    let h = sym c.begins_clause.ensures ∙ c.loop-alloc-test.true in
    let s = clause_shorter c.loop-alloc.reader h in
    let p = err_from_is_err_and c.from_residual.result c.from_residual.ensures.1 in
    rw (p.1, p.2) (steps_fail begins_clause (clause_at c.args.signature.now c.args.known.now) c.loop-alloc.annotation c.loop-alloc.reader c.in_err-clause.field-0.0 _ c.loop-alloc.invariant.so_far (omega (arith, s)) h c.in_err-clause.ensures.reads)

pub returns-clause-reads : goal.returns-clause-reads
returns-clause-reads c =
    let h = sym c.begins_clause.ensures ∙ c.loop-alloc-test.false in
    steps_done begins_clause (clause_at c.args.signature.now c.args.known.now) c.loop-alloc.annotation c.loop-alloc.reader _ c.loop-alloc.invariant.so_far h
