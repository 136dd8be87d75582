use Rattle.std.proofs.Common.{sym, ◌∙◌, arith}
use Rattle.std.proofs.lemmas.Result.{err_from_is_err_and}
use Rattle.lx_ir_operands.specs.Operands.{case_at, has_case, some_cases_at}
use Rattle.lx_ir_operands.proofs.Collecting.{case_shorter, ends, goes_on, item_fails}
use Rattle.lx_ir_instructions.proofs.instructions.some_cases.Goals as goal

pub loop-alloc-preserved : goal.loop-alloc-preserved
loop-alloc-preserved c =
    let h = sym c.has_case.ensures ∙ c.loop-alloc-test.true in
    let s = case_shorter c.loop-alloc.reader h in
    record {
      so_far = goes_on has_case (case_at c.args.context.now c.args.ty) c.loop-alloc.cases c.push.new.self c.loop-alloc.reader c.case.new.reader c.in_ok-next.next (some_cases_at c.args.context.now c.args.ty c.args.reader.now) c.in_ok-push.ensures.items c.loop-alloc.invariant.so_far h c.in_ok-next.ensures.reads (omega (arith, s, c.in_ok-next.ensures.shrinks));
      shrinks = omega (arith, s, c.in_ok-next.ensures.shrinks, c.loop-alloc.invariant.shrinks);
    }

pub returns-in_err-next-clause-reads : goal.returns-in_err-next-clause-reads
returns-in_err-next-clause-reads c =
    let h = sym c.has_case.ensures ∙ c.loop-alloc-test.true in
    let s = case_shorter c.loop-alloc.reader h in
    let p = err_from_is_err_and c.from_residual.result c.from_residual.ensures.1 in
    rw (p.1, p.2) (item_fails has_case (case_at c.args.context.now c.args.ty) c.loop-alloc.cases c.loop-alloc.reader c.in_err-next.field-0.0 (some_cases_at c.args.context.now c.args.ty c.args.reader.now) c.loop-alloc.invariant.so_far (omega (arith, s)) h c.in_err-next.ensures.reads)

pub returns-clause-reads : goal.returns-clause-reads
returns-clause-reads c =
    let h = sym c.has_case.ensures ∙ c.loop-alloc-test.false in
    ends has_case (case_at c.args.context.now c.args.ty) c.loop-alloc.cases c.loop-alloc.reader (some_cases_at c.args.context.now c.args.ty c.args.reader.now) c.loop-alloc.invariant.so_far h
