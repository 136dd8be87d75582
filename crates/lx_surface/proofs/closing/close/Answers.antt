use Rattle.lx_surface.proofs.Turns.{closes}
use Rattle.lx_surface.proofs.closing.close.Goals as goal

pub returns : goal.returns
returns c = closes c.args.program.now c.args.work.now c.follow_all.new.work c.pass_references.new.work c.in_ok-follow_all.ensures c.in_ok-pass_references.ensures
