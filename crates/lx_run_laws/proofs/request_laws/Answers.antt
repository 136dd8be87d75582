-- The laws are lemmas.
use Rattle.lx_run_laws.proofs.Steps.{next_servable}
use Rattle.lx_run_laws.proofs.Replies.{absorbed_on}
use Rattle.lx_run_laws.proofs.request_laws.Goals as goal

pub returns : goal.returns
returns c = record { asks = next_servable; stays = absorbed_on }
