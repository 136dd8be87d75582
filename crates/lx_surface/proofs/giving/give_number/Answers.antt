use Rattle.std.proofs.Common.{sym}
use Rattle.lx_surface.proofs.Gifts.{this_function}
use Rattle.lx_surface.proofs.giving.give_number.Goals as goal

pub returns-in_ok-give-in-Some : goal.returns-in_ok-give-in-Some
returns-in_ok-give-in-Some c = this_function c.args.program.now c.args.work.now c.give.new.work c.args.gift.to c.args.gift.from c.args.number c.in-Some.field-0 (sym c.in-Some.ensures) c.in_ok-give-in-Some.ensures
