-- Runs of a world.
use Rattle.std.specs.Prelude.{◌≡◌, ℕ, Bool, List, length, map}
use Rattle.lx_caps.specs.History.{History}
use Rattle.lx_images.specs.Image.{Code}
use Rattle.lx_images.specs.ImageWorld.{ImageWorld}
use Rattle.lx_images.specs.Stands.{StandsFor}
use Rattle.lx_world.specs.declared.world.World.{World as Held}
use Rattle.lx_world.specs.Worlds.{StandsForWorld}
use Rattle.lx_slot_types.specs.Gets.{below}
use Rattle.lx_model.specs.declared.account.ImageCount.{ImageCount}
use Rattle.lx_model.specs.Account.{image_count}
use Rattle.lx_model.specs.World.{World}
use Rattle.lx_model.specs.declared.program.Program.{Program}
use Rattle.lx_runs.specs.Reports.{IsAccountOf}
use Rattle.lx_runs.specs.declared.told.Told.{Told}
use Rattle.lx_runs.specs.declared.told.Told.TheVariants as told

-- what the images of a program's modules have
abbrev pub images_of : Program → List ImageCount
images_of p = map (image_count p) (below (length p.modules))

-- the report of a world of images is that of each of the monitor's worlds that it stands for
abbrev pub ReportsOf : {C : Type 0} → (C → History → Type 0) → Held C → Told → Type 0
ReportsOf stands world t =
    (text : List ℕ) × (returned : Bool) × (t ≡ told.Report text returned)
    × ((c : Code) (v : ImageWorld) (w : World) → StandsForWorld stands c world v → StandsFor c w v → IsAccountOf c.program w returned text)
