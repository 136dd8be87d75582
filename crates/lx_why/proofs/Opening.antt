-- Worlds that are opened over images in which each store has its guard.
use Rattle.std.proofs.Common.{List}
use Rattle.lx_caps.specs.History.{History}
use Rattle.lx_ir.specs.declared.module.Module.{Module}
use Rattle.lx_link_texts.specs.WellFormed.{IsWellFormed}
use Rattle.lx_model.specs.declared.program.Program.{Program}
use Rattle.lx_model.specs.declared.program.ScriptCall.{ScriptCall}
use Rattle.lx_images.specs.ImageWorld.{image_opening}
use Rattle.lx_simulation.specs.Images.{AreFullImages, AreImages, code_of}
use Rattle.lx_simulation.specs.Simulation.{SimulationLaws}
use Rattle.lx_world.specs.declared.world.World.{World}
use Rattle.lx_world.specs.Exact.{IsExact}
use Rattle.lx_world.specs.Worlds.{StandsForWorld}
use Rattle.lx_why.specs.Opened.{IsFullOpening}

-- what is opened over images that are made with all guards
abbrev pub fully_opened : {C : Type 0} (laws : SimulationLaws) (stands : C → History → Type 0) (p : Program) (script : List (List ScriptCall)) (images : List Module) (world : World C) → IsWellFormed p → AreImages p images
    → AreFullImages p images → StandsForWorld stands (code_of p images) world (image_opening (code_of p images) script) → IsExact (code_of p images) world (image_opening (code_of p images) script) → IsFullOpening stands p script world
fully_opened laws stands p script images world formed are full stands_for exact = record {
  formed = formed;
  images = images;
  accepted = laws.images_are (code_of p images) (record { linked = laws.linked p formed; images = are });
  guarded = laws.guarded p images full;
  stands_for = stands_for;
  exact = exact;
}
