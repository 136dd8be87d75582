-- The laws are lemmas.
use Rattle.lx_run_laws.proofs.Explaining.{is_explained, run_explained}
use Rattle.lx_run_laws.proofs.Running.{opening_caused}
use Rattle.lx_run_laws.proofs.refusal_laws.Goals as goal

pub returns : goal.returns
returns c = record { replies = is_explained; runs = run_explained; caused = opening_caused }
