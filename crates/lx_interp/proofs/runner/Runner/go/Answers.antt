use Rattle.std.proofs.Common.{not, refl, sym, ap, ◌∙◌, subst, arith}
use Rattle.lx_model.specs.Thread.{has_call}
use Rattle.lx_frames.specs.Stack.{IsReadyIf}
use Rattle.lx_interp.specs.Runner.{steps_before}
use Rattle.lx_interp.proofs.Goings.{none_is, taken_on, goes_further, fewer_steps}
use Rattle.lx_interp.proofs.runner.Runner.go.Goals as goal
use Rattle.lx_interp.proofs.Takings.{left_same}

pub loop-self-init : goal.loop-self-init
loop-self-init c =
    let p = c.args.code.now in
    let old = c.args.self.now in
    record {
      goes = record { number = refl; calls = refl; ended = refl; asks = refl; ready = subst (IsReadyIf p old.stack) (sym c.requires.request) tt };
      events = omega arith;
      work = c.requires.work;
    }

pub loop-self-preserved : goal.loop-self-preserved
loop-self-preserved c =
    let p = c.args.code.now in
    let r = c.loop-self.self in
    let new = c.take_next.new.self in
    let h = c.in_ok-take_next.ensures.steps in
    let idle = none_is r.request (c.is_none.ensures ∙ ap not c.loop-self-test.true) in
    record {
      goes = goes_further p c.args.self.now r new c.loop-self.invariant.goes (taken_on p r new idle h);
      events = omega (arith, c.loop-self.invariant.events, c.take_next.ensures.spares);
      work = ap has_call (left_same r new h.calls h.ended) ∙ c.loop-self.invariant.work;
    }

pub loop-self-smaller : goal.loop-self-smaller
loop-self-smaller c =
    let p = c.args.code.now in
    let r = c.loop-self.self in
    let idle = none_is r.request (c.is_none.ensures ∙ ap not c.loop-self-test.true) in
    let same = ap (steps_before p r) idle in
    omega (arith, same, fewer_steps p r c.take_next.new.self c.in_ok-take_next.ensures.steps)
