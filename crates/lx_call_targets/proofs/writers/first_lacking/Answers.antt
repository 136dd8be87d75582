use Rattle.std.proofs.Common.{refl}
use Rattle.lx_call_targets.specs.Writers.{lacks}
use Rattle.lx_call_targets.proofs.writers.first_lacking.Goals as goal

pub returns : goal.returns
returns g c = λ h stands. c.first_writer.ensures h stands (lacks c.args.names.now.modules c.args.names.now.names h c.args.at) (h, stands, refl)
