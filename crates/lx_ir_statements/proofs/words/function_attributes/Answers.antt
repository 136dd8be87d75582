use Rattle.std.proofs.Common.{sym, ◌∙◌, arith}
use Rattle.std.proofs.lemmas.Result.{err_from_is_err_and}
use Rattle.lx_ir_operands.specs.Steps.{one_attribute_at}
use Rattle.lx_ir_statements.specs.Words.{has_function_attribute, function_attributes_at}
use Rattle.lx_ir_operands.proofs.Stepping.{step_fails, steps_end, steps_on}
use Rattle.lx_ir_statements.proofs.Onward.{function_attributes_shorter}
use Rattle.lx_ir_statements.proofs.words.function_attributes.Goals as goal

pub loop-reader-preserved : goal.loop-reader-preserved
loop-reader-preserved c =
    let h = sym c.has_function_attribute.ensures ∙ c.loop-reader-test.true in
    let s = function_attributes_shorter c.loop-reader.reader h in
    record {
      so_far = steps_on has_function_attribute one_attribute_at c.loop-reader.reader c.one_attribute.new.reader (function_attributes_at c.args.reader.now) c.loop-reader.invariant.so_far h c.in_ok-one_attribute.ensures.reads (omega (arith, s, c.in_ok-one_attribute.ensures.shrinks));
      shrinks = omega (arith, s, c.in_ok-one_attribute.ensures.shrinks, c.loop-reader.invariant.shrinks);
    }

pub returns-in_err-one_attribute-clause-reads : goal.returns-in_err-one_attribute-clause-reads
returns-in_err-one_attribute-clause-reads c =
    let h = sym c.has_function_attribute.ensures ∙ c.loop-reader-test.true in
    let s = function_attributes_shorter c.loop-reader.reader h in
    let p = err_from_is_err_and c.from_residual.result c.from_residual.ensures.1 in
    rw (p.1, p.2) (step_fails has_function_attribute one_attribute_at c.loop-reader.reader c.in_err-one_attribute.field-0.0 (function_attributes_at c.args.reader.now) c.loop-reader.invariant.so_far (omega (arith, s)) h c.in_err-one_attribute.ensures.reads)

pub returns-clause-reads : goal.returns-clause-reads
returns-clause-reads c =
    let h = sym c.has_function_attribute.ensures ∙ c.loop-reader-test.false in
    steps_end has_function_attribute one_attribute_at c.loop-reader.reader (function_attributes_at c.args.reader.now) c.loop-reader.invariant.so_far h
