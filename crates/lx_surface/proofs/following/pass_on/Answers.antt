use Rattle.std.proofs.Common.{sym}
use Rattle.lx_surface.proofs.Passing.{all_passed, next_passed}
use Rattle.lx_surface.proofs.following.pass_on.Goals as goal

pub returns-in-None : goal.returns-in-None
returns-in-None c = all_passed c.args.program.now c.args.work.now c.loop-place.work c.args.holder c.args.what c.loop-place.place c.loop-place.invariant (sym c.in-None.ensures)

pub loop-place-preserved : goal.loop-place-preserved
loop-place-preserved c =
    next_passed c.args.program.now c.args.work.now c.loop-place.work c.pass_to.new.work c.args.holder c.args.what c.loop-place.place c.in-Some.«module» c.loop-place.invariant (sym c.in-Some.ensures)
    c.in_ok-pass_to-in-Some.ensures
