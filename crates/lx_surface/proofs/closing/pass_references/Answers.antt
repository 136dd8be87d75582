use Rattle.std.proofs.Common.{sym}
use Rattle.lx_surface.proofs.Turns.{all_references, next_reference}
use Rattle.lx_surface.proofs.closing.pass_references.Goals as goal

pub returns-in-None : goal.returns-in-None
returns-in-None c = all_references c.args.program.now c.args.work.now c.loop-place.work c.loop-place.place c.loop-place.invariant (sym c.in-None.ensures)

pub loop-place-preserved : goal.loop-place-preserved
loop-place-preserved c =
    next_reference c.args.program.now c.args.work.now c.loop-place.work c.pass_on.new.work c.loop-place.place c.in-Some.«module» c.in-Some.ty c.loop-place.invariant (sym c.in-Some.ensures)
    c.in_ok-pass_on-in-Some.ensures
