-- Worlds of images whose account is asked for.
use Rattle.std.specs.Prelude.{◌≡◌, List, length, map}
use Rattle.lx_caps.specs.History.{History}
use Rattle.lx_slot_types.specs.Gets.{below}
use Rattle.lx_model.specs.declared.account.ImageCount.{ImageCount}
use Rattle.lx_model.specs.Account.{image_count}
use Rattle.lx_link_texts.specs.WellFormed.{IsWellFormed}
use Rattle.lx_images.specs.Image.{Code}
use Rattle.lx_images.specs.ImageWorld.{ImageWorld}
use Rattle.lx_world.specs.declared.world.World.{World}
use Rattle.lx_world.specs.Worlds.{StandsForWorld}

-- the world stands for one of images of a well-formed program, and its images have so much beyond the modules
pub record IsOpened {C : Type 0} (stands : C → History → Type 0) (world : World C) (counts : List ImageCount) : Type 0 where
  pub code : Code
  pub meaning : ImageWorld
  pub stands_for : StandsForWorld stands code world meaning
  pub formed : IsWellFormed code.program
  pub counted : counts ≡ map (image_count code.program) (below (length code.program.modules))
