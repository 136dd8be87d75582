use Rattle.lx_opened_tests.proofs.Worlds.{same_world}
use Rattle.lx_opened_tests.proofs.events.rebuilt.Goals as goal

pub returns : goal.returns
returns g c = same_world c.args.world c.from_parts.result _ _ _ c.into_parts-shared.ensures c.from_parts.ensures
