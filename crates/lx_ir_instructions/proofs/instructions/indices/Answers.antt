use Rattle.std.proofs.Common.{sym, ◌∙◌, arith}
use Rattle.std.proofs.lemmas.Result.{err_from_is_err_and}
use Rattle.lx_ir_terms.specs.Reading.{behind}
use Rattle.lx_ir_operands.specs.Steps.{has_further, unbroken_at}
use Rattle.lx_ir_operands.specs.Operands.{typed_at}
use Rattle.lx_ir_operands.proofs.Collecting.{ends, further_shorter, goes_on, item_fails}
use Rattle.lx_ir_instructions.proofs.instructions.indices.Goals as goal

pub loop-alloc-preserved : goal.loop-alloc-preserved
loop-alloc-preserved c =
    let h = sym c.has_further.ensures ∙ c.loop-alloc-test.true in
    let s = further_shorter c.loop-alloc.reader h in
    record {
      so_far = goes_on has_further (λ us. (typed_at c.args.context.now) (behind us)) c.loop-alloc.indices c.push-in-loop-alloc.new.self c.loop-alloc.reader c.further_index.new.reader c.in_ok-next.next (unbroken_at (typed_at c.args.context.now) c.args.reader.now) c.in_ok-push-2.ensures.items c.loop-alloc.invariant.so_far h c.in_ok-next.ensures.reads (omega (arith, s, c.further_index.ensures.shrinks));
      shrinks = omega (arith, s, c.further_index.ensures.shrinks, c.loop-alloc.invariant.shrinks);
    }

pub returns-in_err-next-clause-reads : goal.returns-in_err-next-clause-reads
returns-in_err-next-clause-reads c =
    let h = sym c.has_further.ensures ∙ c.loop-alloc-test.true in
    let s = further_shorter c.loop-alloc.reader h in
    let p = err_from_is_err_and c.from_residual-in_err-next.result c.from_residual-in_err-next.ensures.1 in
    rw (p.1, p.2) (item_fails has_further (λ us. (typed_at c.args.context.now) (behind us)) c.loop-alloc.indices c.loop-alloc.reader c.in_err-next.field-0.0 (unbroken_at (typed_at c.args.context.now) c.args.reader.now) c.loop-alloc.invariant.so_far (omega (arith, s)) h c.in_err-next.ensures.reads)

pub returns-clause-reads : goal.returns-clause-reads
returns-clause-reads c =
    let h = sym c.has_further.ensures ∙ c.loop-alloc-test.false in
    ends has_further (λ us. (typed_at c.args.context.now) (behind us)) c.loop-alloc.indices c.loop-alloc.reader (unbroken_at (typed_at c.args.context.now) c.args.reader.now) c.loop-alloc.invariant.so_far h
