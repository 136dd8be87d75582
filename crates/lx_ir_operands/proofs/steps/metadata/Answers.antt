use Rattle.std.proofs.Common.{sym, ◌∙◌, arith}
use Rattle.std.proofs.lemmas.Result.{err_from_is_err_and}
use Rattle.lx_ir_tokens.specs.declared.token.Mark.TheVariants.{Comma}
use Rattle.lx_ir_terms.specs.Reading.{is_mark, behind}
use Rattle.lx_ir_terms.proofs.Loop.{behind_shorter}
use Rattle.lx_ir_operands.specs.Steps.{has_comma, metadata_at, one_metadata_at}
use Rattle.lx_ir_operands.proofs.Stepping.{step_fails, steps_end, steps_on}
use Rattle.lx_ir_operands.proofs.steps.metadata.Goals as goal

pub loop-reader-preserved : goal.loop-reader-preserved
loop-reader-preserved c =
    let h = sym c.has.ensures ∙ c.loop-reader-test.true in
    let s = behind_shorter (is_mark Comma) c.loop-reader.reader h in
    record {
      so_far = steps_on has_comma (λ us. one_metadata_at (behind us)) c.loop-reader.reader c.further_metadata.new.reader (metadata_at c.args.reader.now) c.loop-reader.invariant.so_far h c.in_ok-further_metadata.ensures.reads (omega (arith, s, c.further_metadata.ensures.shrinks));
      shrinks = omega (arith, s, c.further_metadata.ensures.shrinks, c.loop-reader.invariant.shrinks);
    }

pub returns-in_err-further_metadata-clause-reads : goal.returns-in_err-further_metadata-clause-reads
returns-in_err-further_metadata-clause-reads c =
    let h = sym c.has.ensures ∙ c.loop-reader-test.true in
    let s = behind_shorter (is_mark Comma) c.loop-reader.reader h in
    let p = err_from_is_err_and c.from_residual.result c.from_residual.ensures.1 in
    rw (p.1, p.2) (step_fails has_comma (λ us. one_metadata_at (behind us)) c.loop-reader.reader c.in_err-further_metadata.field-0.0 (metadata_at c.args.reader.now) c.loop-reader.invariant.so_far (omega (arith, s)) h c.in_err-further_metadata.ensures.reads)

pub returns-clause-reads : goal.returns-clause-reads
returns-clause-reads c =
    let h = sym c.has.ensures ∙ c.loop-reader-test.false in
    steps_end has_comma (λ us. one_metadata_at (behind us)) c.loop-reader.reader (metadata_at c.args.reader.now) c.loop-reader.invariant.so_far h
