use Rattle.std.proofs.Common.{refl}
use Rattle.lx_world.proofs.world.World.open.Goals as goal

pub returns-in-Ok-clause-opens : goal.returns-in-Ok-clause-opens
returns-in-Ok-clause-opens g c = record { code = refl; shared = c.open_runners.ensures.stands _ _ c.requires.opened; threads = c.in-Ok.ensures.stand }

pub returns-in-Ok-clause-exact : goal.returns-in-Ok-clause-exact
returns-in-Ok-clause-exact g c = record { code = refl; threads = c.in-Ok.ensures.exact }
