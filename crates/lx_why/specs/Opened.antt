-- Worlds that are opened over images in which each store has its guard.
use Rattle.std.specs.Prelude.{List}
use Rattle.lx_caps.specs.History.{History}
use Rattle.lx_ir.specs.declared.module.Module.{Module}
use Rattle.lx_link_texts.specs.WellFormed.{IsWellFormed}
use Rattle.lx_model.specs.declared.program.Program.{Program}
use Rattle.lx_model.specs.declared.program.ScriptCall.{ScriptCall}
use Rattle.lx_images.specs.Guarded.{Accepted}
use Rattle.lx_images.specs.ImageWorld.{image_opening}
use Rattle.lx_simulation.specs.Images.{code_of}
use Rattle.lx_simulation.specs.Simulation.{AllGuarded}
use Rattle.lx_world.specs.declared.world.World.{World}
use Rattle.lx_world.specs.Exact.{IsExact}
use Rattle.lx_world.specs.Worlds.{StandsForWorld}

-- the world stands for the opening of a script over accepted images of a well-formed program, in which each store has its guard, and each of
-- its threads is exactly there
pub record IsFullOpening {C : Type 0} (stands : C → History → Type 0) (p : Program) (script : List (List ScriptCall)) (world : World C) : Type 0 where
  pub formed : IsWellFormed p
  pub images : List Module
  pub accepted : Accepted (code_of p images)
  pub guarded : AllGuarded (code_of p images)
  pub stands_for : StandsForWorld stands (code_of p images) world (image_opening (code_of p images) script)
  pub exact : IsExact (code_of p images) world (image_opening (code_of p images) script)
