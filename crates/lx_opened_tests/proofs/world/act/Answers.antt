use Rattle.lx_images.specs.ImageWorld.{image_event}
use Rattle.lx_opened_tests.specs.Programs.{silent_code}
use Rattle.lx_opened_tests.proofs.world.act.Goals as goal

pub returns-in-Ok : goal.returns-in-Ok
returns-in-Ok g c = (image_event silent_code c.args.thread c.requires.0, c.in-Ok.ensures.event silent_code c.requires.0 c.requires.1)
