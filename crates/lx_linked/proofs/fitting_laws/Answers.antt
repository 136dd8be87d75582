-- The laws are lemmas.
use Rattle.lx_linked.proofs.FittingRuns.{opens, asks, runs}
use Rattle.lx_linked.proofs.Taking.{kept}
use Rattle.lx_linked.proofs.Serving.{served}
use Rattle.lx_linked.proofs.fitting_laws.Goals as goal

pub returns : goal.returns
returns c = record { opens = opens; asks = asks; kept = kept; served = served; runs = runs }
