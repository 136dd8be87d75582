use Rattle.std.proofs.Common.{sym, ◌∙◌}
use Rattle.lx_surface.proofs.Passing.{one_passed}
use Rattle.lx_surface.proofs.following.pass_to.Goals as goal

pub returns-in_ok-give : goal.returns-in_ok-give
returns-in_ok-give c = one_passed c.args._program.now c.args.work.now c.give.new.self c.args.holder c.args.what c.args.«module» (sym c.has.ensures ∙ c.if-has.true) c.in_ok-give.ensures
