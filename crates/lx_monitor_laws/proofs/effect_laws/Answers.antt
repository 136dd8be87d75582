-- The laws are lemmas.
use Rattle.lx_monitor_laws.proofs.Effects.{number_bytes, bytes, ended, answers}
use Rattle.lx_monitor_laws.proofs.effect_laws.Goals as goal

pub returns : goal.returns
returns c = record { numbers = number_bytes; bytes = bytes; ended = ended; answers = answers }
