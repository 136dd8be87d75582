use Rattle.std.proofs.Common.{sym, ◌∙◌, arith}
use Rattle.std.proofs.lemmas.Result.{err_from_is_err_and}
use Rattle.lx_ir_statements.proofs.Onward.{goes_on, step_fails, ends}
use Rattle.lx_ir_statements.specs.Blocks.{run_goes_on, run_step, further_instrs_at}
use Rattle.lx_ir_statements.proofs.Shorter.{run_some}
use Rattle.lx_ir_statements.proofs.body.further_instrs.Goals as goal

pub loop-alloc-preserved : goal.loop-alloc-preserved
loop-alloc-preserved c =
    let h = sym c.run_goes_on.ensures ∙ c.loop-alloc-test.true in
    let s = run_some c.loop-alloc.run c.loop-alloc.reader h in
    record {
      so_far = goes_on (λ h us. run_goes_on h.0 us) (run_step c.args.context.now c.args.form c.args.places.now) (c.loop-alloc.run, c.loop-alloc.locals) (c.run_step.new.run, c.run_step.new.locals) c.loop-alloc.reader c.run_step.new.reader (further_instrs_at c.args.context.now c.args.form c.args.places.now (c.args.run.now, c.args.locals.now) c.args.reader.now) c.loop-alloc.invariant.so_far h c.in_ok-run_step.ensures.reads (c.in_ok-run_step.ensures.shrinks);
      shrinks = omega (arith, c.in_ok-run_step.ensures.shrinks, c.loop-alloc.invariant.shrinks);
    }

pub returns-in_err-run_step-clause-reads : goal.returns-in_err-run_step-clause-reads
returns-in_err-run_step-clause-reads c =
    let h = sym c.run_goes_on.ensures ∙ c.loop-alloc-test.true in
    let s = run_some c.loop-alloc.run c.loop-alloc.reader h in
    let p = err_from_is_err_and c.from_residual.result c.from_residual.ensures.1 in
    rw (p.1, p.2) (step_fails (λ h us. run_goes_on h.0 us) (run_step c.args.context.now c.args.form c.args.places.now) (c.loop-alloc.run, c.loop-alloc.locals) c.loop-alloc.reader c.in_err-run_step.field-0.0 (further_instrs_at c.args.context.now c.args.form c.args.places.now (c.args.run.now, c.args.locals.now) c.args.reader.now) c.loop-alloc.invariant.so_far (omega (arith, s)) h c.in_err-run_step.ensures.reads)

pub returns-clause-reads : goal.returns-clause-reads
returns-clause-reads c =
    let h = sym c.run_goes_on.ensures ∙ c.loop-alloc-test.false in
    ends (λ h us. run_goes_on h.0 us) (run_step c.args.context.now c.args.form c.args.places.now) (c.loop-alloc.run, c.loop-alloc.locals) c.loop-alloc.reader (further_instrs_at c.args.context.now c.args.form c.args.places.now (c.args.run.now, c.args.locals.now) c.args.reader.now) c.loop-alloc.invariant.so_far h
