-- Worlds of images before their first event.
use Rattle.std.specs.Prelude.{◌≤◌, List, length}
use Rattle.lx_caps.specs.History.{History}
use Rattle.lx_ir.specs.declared.module.Module.{Module}
use Rattle.lx_link_texts.specs.WellFormed.{IsWellFormed, FitsCalls}
use Rattle.lx_model.specs.declared.program.Program.{Program}
use Rattle.lx_model.specs.declared.program.ScriptCall.{ScriptCall}
use Rattle.lx_images.specs.ImageWorld.{image_opening}
use Rattle.lx_world.specs.declared.world.World.{World}
use Rattle.lx_world.specs.Worlds.{StandsForWorld}
use Rattle.lx_simulation.specs.Images.{code_of, AreImages}
use Rattle.lx_why.specs.Opened.{IsFullOpening}
use Rattle.lx_runs.specs.Images.{AreMadeOf}
use Rattle.lx_runs.specs.declared.images.Guarding.{Guarding}
use Rattle.lx_runs.specs.declared.images.Guarding.TheVariants.{Spared, Full}

-- the world stands for the opening of a script over images of the modules of a well-formed program; the script has at most sixteen
-- threads, and its calls fit
pub record IsOpened {C : Type 0} (stands : C → History → Type 0) (p : Program) (script : List (List ScriptCall)) (world : World C) : Type 0 where
  pub formed : IsWellFormed p
  pub few : length script ≤ 16
  pub fits : FitsCalls p script
  pub images : List Module
  pub are_images : AreImages p images
  pub stands_for : StandsForWorld stands (code_of p images) world (image_opening (code_of p images) script)

-- it is fully opened where each store of its images is to have a guard,
abbrev pub IsOpenedWith : {C : Type 0} → Guarding → (C → History → Type 0) → Program → List (List ScriptCall) → World C → Type 0
IsOpenedWith Spared stands p script world = Unit {0}
IsOpenedWith Full stands p script world = IsFullOpening stands p script world

-- and where these images are made so
unfoldable pub IsFullOver : {C : Type 0} → List Module → (C → History → Type 0) → Program → List (List ScriptCall) → World C → Type 0
IsFullOver images stands p script world = AreMadeOf Full p.interface p.modules images → IsFullOpening stands p script world
