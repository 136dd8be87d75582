use Rattle.std.proofs.Common.{not, refl, sym, ap, ◌∙◌, subst, arith}
use Rattle.lx_model.specs.Thread.{has_call}
use Rattle.lx_frames.specs.Stack.{IsReadyIf}
use Rattle.lx_interp.specs.Runner.{steps_before, thread_of}
use Rattle.lx_interp.proofs.Askers.{asked_from, asks_first, asks_on}
use Rattle.lx_interp.proofs.Goings.{none_is, taken_on, goes_further, fewer_steps}
use Rattle.lx_interp.proofs.Takings.{left_same}
use Rattle.lx_interp.proofs.runner.Runner.go_from.Goals as goal

pub loop-at-init : goal.loop-at-init
loop-at-init c =
    let p = c.args.code.now in
    let old = c.args.self.now in (
      record {
        goes = record { number = refl; calls = refl; ended = refl; asks = refl; ready = subst (IsReadyIf p old.stack) (sym c.requires.request) tt };
        events = omega arith;
        work = c.requires.work;
      },
      λ marks. asks_first p old _ c.requires.request marks,
    )

pub loop-at-preserved : goal.loop-at-preserved
loop-at-preserved c =
    let p = c.args.code.now in
    let first = c.args.self.now in
    let r = c.loop-at.self in
    let new = c.take_next.new.self in
    let before = c.loop-at.invariant.0 in
    let h = c.in_ok-take_next.ensures.steps in
    let idle = none_is r.request (c.is_none.ensures ∙ ap not c.loop-at-test.true) in (
      record {
        goes = goes_further p first r new before.goes (taken_on p r new idle h);
        events = omega (arith, before.events, c.take_next.ensures.spares);
        work = ap has_call (left_same r new h.calls h.ended) ∙ before.work;
      },
      λ marks. asks_on p (thread_of p first) r new c.loop-at.at c.standing-at.result idle (c.loop-at.invariant.1 marks) (c.standing-at.ensures p) h,
    )

pub loop-at-smaller : goal.loop-at-smaller
loop-at-smaller c =
    let p = c.args.code.now in
    let r = c.loop-at.self in
    let idle = none_is r.request (c.is_none.ensures ∙ ap not c.loop-at-test.true) in
    let same = ap (steps_before p r) idle in
    omega (arith, same, fewer_steps p r c.take_next.new.self c.in_ok-take_next.ensures.steps)

pub returns-clause-from : goal.returns-clause-from
returns-clause-from c = λ marks.
    let r = c.loop-at.self in
    asked_from c.args.code.now (thread_of c.args.code.now c.args.self.now) r r.request c.loop-at.at (c.is_none.ensures ∙ ap not c.loop-at-test.false) (c.loop-at.invariant.1 marks)
