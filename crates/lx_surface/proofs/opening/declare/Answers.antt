use Rattle.std.proofs.Common.{sym}
use Rattle.lx_surface.proofs.Beginnings.{one_declared}
use Rattle.lx_surface.proofs.opening.declare.Goals as goal

pub returns-in_ok-give-in-Some : goal.returns-in_ok-give-in-Some
returns-in_ok-give-in-Some c = one_declared c.args.names.now c.args.work.now c.give.new.self c.args.«module» c.args.function.now c.in-Some.number (sym c.in-Some.ensures) c.in_ok-give-in-Some.ensures
