-- The law is a lemma.
use Rattle.lx_monitor_laws.proofs.Performing.{performed}
use Rattle.lx_monitor_laws.proofs.action_laws.Goals as goal

pub returns : goal.returns
returns c = record { performed = performed }
