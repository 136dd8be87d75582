use Rattle.std.proofs.Common.{refl}
use Rattle.lx_call_targets.specs.Writers.{is_known}
use Rattle.lx_call_targets.proofs.writers.some_known.Goals as goal

pub returns : goal.returns
returns g c = λ h stands. c.some_writer.ensures h stands (is_known c.args.names.now.modules c.args.names.now.names) refl
