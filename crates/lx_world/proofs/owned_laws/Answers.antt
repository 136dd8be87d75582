-- The laws are lemmas.
use Rattle.lx_world.proofs.Listed.{calls_listed, refs_listed}
use Rattle.lx_world.proofs.Ranges.{owned_ranges-greatest}
use Rattle.lx_world.proofs.owned_laws.Goals as goal

pub returns : goal.returns
returns c = record { ranges = owned_ranges-greatest; calls = calls_listed; refs = refs_listed }
