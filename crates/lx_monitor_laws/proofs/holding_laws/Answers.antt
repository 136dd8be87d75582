-- The law of owners by counting.
use Rattle.lx_monitor_laws.proofs.Holding.{is_holding}
use Rattle.lx_monitor_laws.proofs.holding_laws.Goals as goal

pub returns : goal.returns
returns c = is_holding c.region_laws.ensures c.owner_laws.ensures
