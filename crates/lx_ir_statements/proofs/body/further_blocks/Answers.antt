use Rattle.std.proofs.Common.{sym, ◌∙◌, arith}
use Rattle.std.proofs.lemmas.Result.{err_from_is_err_and}
use Rattle.lx_ir_statements.proofs.Onward.{goes_on, step_fails, ends}
use Rattle.lx_ir_statements.specs.Blocks.{body_goes_on, body_step, further_blocks_at}
use Rattle.lx_ir_statements.proofs.Shorter.{label_shorter}
use Rattle.lx_ir_statements.proofs.body.further_blocks.Goals as goal

pub loop-alloc-preserved : goal.loop-alloc-preserved
loop-alloc-preserved c =
    let h = sym c.has_label.ensures ∙ c.loop-alloc-test.true in
    let s = label_shorter c.loop-alloc.reader h in
    record {
      so_far = goes_on body_goes_on (body_step c.args.context.now c.args.form c.args.places.now) (c.loop-alloc.blocks, c.loop-alloc.locals) (c.body_step.new.blocks, c.body_step.new.locals) c.loop-alloc.reader c.body_step.new.reader (further_blocks_at c.args.context.now c.args.form c.args.places.now (c.args.blocks.now, c.args.locals.now) c.args.reader.now) c.loop-alloc.invariant.so_far h c.in_ok-body_step.ensures.reads (omega (arith, s, c.in_ok-body_step.ensures.shrinks));
      shrinks = omega (arith, s, c.in_ok-body_step.ensures.shrinks, c.loop-alloc.invariant.shrinks);
    }

pub returns-in_err-body_step-clause-reads : goal.returns-in_err-body_step-clause-reads
returns-in_err-body_step-clause-reads c =
    let h = sym c.has_label.ensures ∙ c.loop-alloc-test.true in
    let s = label_shorter c.loop-alloc.reader h in
    let p = err_from_is_err_and c.from_residual.result c.from_residual.ensures.1 in
    rw (p.1, p.2) (step_fails body_goes_on (body_step c.args.context.now c.args.form c.args.places.now) (c.loop-alloc.blocks, c.loop-alloc.locals) c.loop-alloc.reader c.in_err-body_step.field-0.0 (further_blocks_at c.args.context.now c.args.form c.args.places.now (c.args.blocks.now, c.args.locals.now) c.args.reader.now) c.loop-alloc.invariant.so_far (omega (arith, s)) h c.in_err-body_step.ensures.reads)

pub returns-clause-reads : goal.returns-clause-reads
returns-clause-reads c =
    let h = sym c.has_label.ensures ∙ c.loop-alloc-test.false in
    ends body_goes_on (body_step c.args.context.now c.args.form c.args.places.now) (c.loop-alloc.blocks, c.loop-alloc.locals) c.loop-alloc.reader (further_blocks_at c.args.context.now c.args.form c.args.places.now (c.args.blocks.now, c.args.locals.now) c.args.reader.now) c.loop-alloc.invariant.so_far h
