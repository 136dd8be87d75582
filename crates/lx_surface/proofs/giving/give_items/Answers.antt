use Rattle.lx_surface.specs.Naming.{one_item_names}
use Rattle.lx_surface.proofs.Gifts.{end_given, step_given}
use Rattle.lx_surface.proofs.giving.give_items.Goals as goal

pub loop-item-preserved : goal.loop-item-preserved
loop-item-preserved c = record {
  rest = λ last more.
      c.loop-item.invariant.rest last
      (step_given c.args.program.now c.loop-item.work c.give_item.new.work last c.args.gift.to c.args.gift.from (one_item_names c.args.program.now) c.args.items.now c.loop-item.item-index c.item-item.result
      c.loop-item-test.true c.item-item.is c.in_ok-give_item.ensures more);
}

pub returns : goal.returns
returns c =
    c.loop-item.invariant.rest c.loop-item.work
    (end_given c.args.program.now c.loop-item.work c.args.gift.to c.args.gift.from (one_item_names c.args.program.now) c.args.items.now c.loop-item.item-index c.loop-item-test.false)
