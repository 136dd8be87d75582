use Rattle.lx_surface.proofs.Beginnings.{no_more_declared, step_declared}
use Rattle.lx_surface.proofs.opening.declare_each.Goals as goal

pub loop-function-preserved : goal.loop-function-preserved
loop-function-preserved c = record {
  rest = λ last more.
      c.loop-function.invariant.rest last
      (step_declared c.args.names.now c.loop-function.work c.declare.new.work last c.args.«module» c.args.functions.now c.loop-function.function-index c.function-item.result c.loop-function-test.true
      c.function-item.is c.in_ok-declare.ensures more);
}

pub returns : goal.returns
returns c =
    c.loop-function.invariant.rest c.loop-function.work
    (no_more_declared c.args.names.now c.loop-function.work c.args.«module» c.args.functions.now c.loop-function.function-index c.loop-function-test.false)
