use Rattle.std.proofs.Common.{sym}
use Rattle.lx_surface.proofs.Gifts.{any_call, number_call}
use Rattle.lx_surface.proofs.giving.give_call.Goals as goal

pub returns-in_ok-give_address-in-Some : goal.returns-in_ok-give_address-in-Some
returns-in_ok-give_address-in-Some c = number_call c.args.program.now c.args.work.now c.give_address.new.work c.args.gift.to c.args.gift.from c.args.at.now c.in-Some.address (sym c.in-Some.ensures) c.in_ok-give_address-in-Some.ensures

pub returns-in_ok-give_functions-in-None : goal.returns-in_ok-give_functions-in-None
returns-in_ok-give_functions-in-None c = any_call c.args.program.now c.args.work.now c.give_functions.new.work c.args.gift.to c.args.gift.from c.args.at.now (sym c.in-None.ensures) c.in_ok-give_functions-in-None.ensures
