use Rattle.lx_surface.specs.Names.{gives}
use Rattle.lx_surface.proofs.Gifts.{end_given, step_given}
use Rattle.lx_surface.proofs.giving.give_actions.Goals as goal

pub loop-action-preserved : goal.loop-action-preserved
loop-action-preserved c = record {
  rest = λ last more.
      c.loop-action.invariant.rest last
      (step_given c.args.program.now c.loop-action.work c.give_action.new.work last c.args.gift.to c.args.gift.from (gives c.args.program.now) c.args.actions.now c.loop-action.action-index c.action-item.result
      c.loop-action-test.true c.action-item.is c.in_ok-give_action.ensures more);
}

pub returns : goal.returns
returns c =
    c.loop-action.invariant.rest c.loop-action.work
    (end_given c.args.program.now c.loop-action.work c.args.gift.to c.args.gift.from (gives c.args.program.now) c.args.actions.now c.loop-action.action-index c.loop-action-test.false)
