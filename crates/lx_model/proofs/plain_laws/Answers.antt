-- The law is a lemma.
use Rattle.lx_model.proofs.PlainEvents as events
use Rattle.lx_model.proofs.plain_laws.Goals as goal

pub returns : goal.returns
returns c = record { plain = events.plain }
