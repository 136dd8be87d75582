use Rattle.std.proofs.Common.{sym}
use Rattle.lx_surface.proofs.Gifts.{each_list, item_list}
use Rattle.lx_surface.proofs.giving.give_list.Goals as goal

pub returns-in_ok-give_each-in-Some : goal.returns-in_ok-give_each-in-Some
returns-in_ok-give_each-in-Some c = each_list c.args.program.now c.args.work.now c.give_each.new.work c.args.gift.to c.args.gift.from c.args.list.now c.in-Some.number (sym c.in-Some.ensures) c.in_ok-give_each-in-Some.ensures

pub returns-in_ok-give_item-in-None : goal.returns-in_ok-give_item-in-None
returns-in_ok-give_item-in-None c = item_list c.args.program.now c.args.work.now c.give_item.new.work c.args.gift.to c.args.gift.from c.args.list.now (sym c.in-None.ensures) c.in_ok-give_item-in-None.ensures
