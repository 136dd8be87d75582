use Rattle.lx_surface.proofs.Gifts.{one_given}
use Rattle.lx_surface.proofs.giving.give.Goals as goal

pub returns : goal.returns
returns c = one_given c.args.program.now c.args.work.now c.give.new.self c.args.gift.to c.args.gift.from c.args.what c.in_ok-give.ensures
