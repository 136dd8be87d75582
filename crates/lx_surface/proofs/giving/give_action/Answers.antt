use Rattle.std.proofs.Common.{sym}
use Rattle.lx_surface.proofs.Gifts.{no_list, this_list}
use Rattle.lx_surface.proofs.giving.give_action.Goals as goal

pub returns-in_ok-give_list-in-Some : goal.returns-in_ok-give_list-in-Some
returns-in_ok-give_list-in-Some c =
    this_list c.args.program.now c.args.work.now c.give_list.new.work c.args.gift.to c.args.gift.from c.args.action.now c.in-Some.list.now (sym c.in-Some.ensures) c.in_ok-give_list-in-Some.ensures

pub returns-in-None : goal.returns-in-None
returns-in-None c = no_list c.args.program.now c.args.work.now c.args.gift.to c.args.gift.from c.args.action.now (sym c.in-None.ensures)
