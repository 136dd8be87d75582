use Rattle.std.proofs.Common.{sym}
use Rattle.lx_surface.proofs.Gifts.{numbered_call}
use Rattle.lx_surface.proofs.giving.give_address.Goals as goal

pub returns-in_ok-give-in-Some : goal.returns-in_ok-give-in-Some
returns-in_ok-give-in-Some c = numbered_call c.args.program.now c.args.work.now c.give.new.work c.args.gift.to c.args.gift.from c.args.address c.in-Some.number (sym c.in-Some.ensures) c.in_ok-give-in-Some.ensures
