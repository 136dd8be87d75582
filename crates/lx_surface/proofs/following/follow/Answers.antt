use Rattle.std.proofs.Common.{sym}
use Rattle.lx_surface.proofs.Follows.{of_text}
use Rattle.lx_surface.proofs.following.follow.Goals as goal

pub returns-in_ok-give_behind-in-Some : goal.returns-in_ok-give_behind-in-Some
returns-in_ok-give_behind-in-Some c =
    of_text c.args.program.now c.args.work.now c.give_behind.new.work c.args.«module» c.args.function c.in-Some.from (sym c.in-Some.ensures) c.in_ok-give_behind-in-Some.ensures
