-- The laws are lemmas.
use Rattle.lx_actions.proofs.Looking.{memory_shown, each_alike}
use Rattle.lx_actions.proofs.look_laws.Goals as goal

pub returns : goal.returns
returns c = record { shown = memory_shown; alike = each_alike }
