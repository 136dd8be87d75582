-- The laws are lemmas.
use Rattle.lx_surface.proofs.Runs.{run_bounded}
use Rattle.lx_surface.proofs.static_reach_laws.Goals as goal

pub returns : goal.returns
returns c = record { bounded = run_bounded }
