use Rattle.std.proofs.Common.{◌≡◌, ◌-◌, ◌∙◌, suc, Some, length, arith, ap, sym}
use Rattle.lx_ir_read.specs.First.{no_progress, found_at, stopped, first_at}
use Rattle.lx_ir_read.proofs.Readings.{first_more, fails_at, first_stops, first_ends, first_spent}
use Rattle.lx_ir_read.proofs.first.statements.Goals.{then-loop-fuel-test+else-left-gt0, else-loop-fuel-test}
use Rattle.lx_ir_read.proofs.first.statements.Goals as goal

pub loop-fuel-preserved : goal.loop-fuel-preserved
loop-fuel-preserved c =
    first_more c.args.context.now c.args.form c.args.places.now c.loop-fuel.fuel (c.loop-fuel.fuel - 1) c.loop-fuel.progress c.add.new.self c.in-Ok.found c.loop-fuel.reader c.next.new.reader (first_at c.args.context.now c.args.form c.args.places.now (length c.args.toks.now) no_progress c.args.toks.now)
    (omega (arith, c.loop-fuel-test.true)) (omega (arith, c.left.ensures, c.if-left-gt0.true)) c.loop-fuel.invariant c.in-Ok.ensures c.in_ok-add-in-Ok.ensures

pub returns-in-Err : goal.returns-in-Err
returns-in-Err c =
    c.stopped.ensures
    ∙ first_stops c.args.context.now c.args.form c.args.places.now c.loop-fuel.fuel (c.loop-fuel.fuel - 1) c.loop-fuel.progress c.in_ok-fault-in-Err.fault c.loop-fuel.reader (first_at c.args.context.now c.args.form c.args.places.now (length c.args.toks.now) no_progress c.args.toks.now)
    (omega (arith, c.loop-fuel-test.true)) (omega (arith, c.left.ensures, c.if-left-gt0.true)) c.loop-fuel.invariant
    (fails_at c.in-Err.error c.in_ok-fault-in-Err.fault (found_at c.args.context.now c.args.form c.args.places.now c.loop-fuel.progress.defined c.loop-fuel.reader) c.in_ok-fault-in-Err.ensures c.in-Err.ensures)

pub returns : goal.returns
returns c =
    elim c.loop-fuel-test.branch [
      | then-loop-fuel-test+else-left-gt0 w ↦
          c.stopped-2.ensures
          ∙ ap (λ f. stopped c.loop-fuel.progress f) c.leftover.ensures
          ∙ first_ends c.args.context.now c.args.form c.args.places.now c.loop-fuel.fuel c.loop-fuel.progress c.loop-fuel.reader (first_at c.args.context.now c.args.form c.args.places.now (length c.args.toks.now) no_progress c.args.toks.now)
          (omega (arith, w.left.ensures, w.if-left-gt0.false)) c.loop-fuel.invariant
      | else-loop-fuel-test w ↦
          c.stopped-2.ensures
          ∙ ap (λ f. stopped c.loop-fuel.progress f) c.leftover.ensures
          ∙ first_spent c.args.context.now c.args.form c.args.places.now c.loop-fuel.fuel c.loop-fuel.progress c.loop-fuel.reader (first_at c.args.context.now c.args.form c.args.places.now (length c.args.toks.now) no_progress c.args.toks.now)
          (omega (arith, w.loop-fuel-test.false)) c.loop-fuel.invariant
    ]
