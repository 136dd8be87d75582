-- The parts of a world.
use Rattle.std.specs.Prelude.{◌≡◌, List}
use Rattle.lx_images.specs.Image.{Code}
use Rattle.lx_interp.specs.declared.runner.Runner.{Runner}
use Rattle.lx_serve.specs.declared.shared.SharedPart.{SharedPart}
use Rattle.lx_world.specs.declared.runners.Runners.{Runners}
use Rattle.lx_world.specs.declared.world.World.{World}

-- the runners by thread
abbrev pub list_of : Runners → List Runner
list_of runners = runners.list.items

-- the world has these parts
pub record AreParts {C : Type 0} (world : World C) (part : SharedPart C) (list : Runners) (c : Code) : Type 0 where
  pub shared : world.shared ≡ part
  pub runners : world.runners ≡ list
  pub code : world.code ≡ c
