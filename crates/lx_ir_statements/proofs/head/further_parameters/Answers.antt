use Rattle.std.proofs.Common.{sym, ◌∙◌, arith}
use Rattle.std.proofs.lemmas.Result.{err_from_is_err_and}
use Rattle.lx_ir_tokens.specs.declared.token.Mark.TheVariants.{Comma}
use Rattle.lx_ir_terms.specs.Reading.{has, is_mark, behind}
use Rattle.lx_ir_terms.proofs.Loop.{behind_shorter}
use Rattle.lx_ir_statements.specs.Parameters.{parameter_at, further_parameters_at}
use Rattle.lx_ir_statements.proofs.Onward.{goes_on, step_fails, ends}
use Rattle.lx_ir_statements.proofs.head.further_parameters.Goals as goal

pub loop-alloc-preserved : goal.loop-alloc-preserved
loop-alloc-preserved c =
    let h = sym c.has.ensures ∙ c.loop-alloc-test.true in
    let s = behind_shorter (is_mark Comma) c.loop-alloc.reader h in
    record {
      so_far = goes_on (λ h us. has (is_mark Comma) us) (λ h us. parameter_at c.args.context.now h (behind us)) c.loop-alloc.head c.further_parameter.new.head c.loop-alloc.reader c.further_parameter.new.reader (further_parameters_at c.args.context.now c.args.head.now c.args.reader.now) c.loop-alloc.invariant.so_far h c.in_ok-further_parameter.ensures.reads (omega (arith, s, c.further_parameter.ensures.shrinks));
      counts = c.further_parameter.ensures.counts;
      shrinks = omega (arith, s, c.further_parameter.ensures.shrinks, c.loop-alloc.invariant.shrinks);
    }

pub returns-in_err-further_parameter-clause-reads : goal.returns-in_err-further_parameter-clause-reads
returns-in_err-further_parameter-clause-reads c =
    let h = sym c.has.ensures ∙ c.loop-alloc-test.true in
    let s = behind_shorter (is_mark Comma) c.loop-alloc.reader h in
    let p = err_from_is_err_and c.from_residual.result c.from_residual.ensures.1 in
    rw (p.1, p.2) (step_fails (λ h us. has (is_mark Comma) us) (λ h us. parameter_at c.args.context.now h (behind us)) c.loop-alloc.head c.loop-alloc.reader c.in_err-further_parameter.field-0.0 (further_parameters_at c.args.context.now c.args.head.now c.args.reader.now) c.loop-alloc.invariant.so_far (omega (arith, s)) h c.in_err-further_parameter.ensures.reads)

pub returns-clause-reads : goal.returns-clause-reads
returns-clause-reads c =
    let h = sym c.has.ensures ∙ c.loop-alloc-test.false in
    ends (λ h us. has (is_mark Comma) us) (λ h us. parameter_at c.args.context.now h (behind us)) c.loop-alloc.head c.loop-alloc.reader (further_parameters_at c.args.context.now c.args.head.now c.args.reader.now) c.loop-alloc.invariant.so_far h
