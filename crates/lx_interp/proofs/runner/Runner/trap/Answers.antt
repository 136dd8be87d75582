use Rattle.std.proofs.Common.{refl}
use Rattle.lx_interp.proofs.Takings.{retaken}
use Rattle.lx_interp.proofs.runner.Runner.trap.Goals as goal

pub returns-clause-stops : goal.returns-clause-stops
returns-clause-stops c = λ p. retaken p c.args.self.now _ c.stop.new.self _ _ refl refl refl refl (c.stop.ensures.stops p)
