-- The law is a lemma.
use Rattle.lx_monitor_laws.proofs.Counting.{counts}
use Rattle.lx_monitor_laws.proofs.count_laws.Goals as goal

pub returns : goal.returns
returns c = record { counted = counts }
