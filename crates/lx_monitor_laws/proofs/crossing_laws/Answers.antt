-- The laws are lemmas.
use Rattle.lx_monitor_laws.proofs.Crossings.{crossing}
use Rattle.lx_monitor_laws.proofs.crossing_laws.Goals as goal

pub returns : goal.returns
returns c = crossing
