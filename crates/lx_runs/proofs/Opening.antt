-- Worlds that are opened over images in which each store has its guard.
use Rattle.std.proofs.Common.{List}
use Rattle.lx_caps.specs.History.{History}
use Rattle.lx_ir.specs.declared.module.Module.{Module}
use Rattle.lx_model.specs.declared.program.Program.{Program}
use Rattle.lx_model.specs.declared.program.ScriptCall.{ScriptCall}
use Rattle.lx_world.specs.declared.world.World.{World}
use Rattle.lx_runs.specs.Images.{AreMadeOf}
use Rattle.lx_runs.specs.Opened.{IsFullOver, IsOpenedWith}
use Rattle.lx_runs.specs.declared.images.Guarding.{Guarding}
use Rattle.lx_runs.specs.declared.images.Guarding.TheVariants.{Spared, Full}

-- images that are made with all guards open it fully
pub opened_with : {C : Type 0} (stands : C → History → Type 0) (g : Guarding) (p : Program) (script : List (List ScriptCall)) (images : List Module) (world : World C) → AreMadeOf g p.interface p.modules images
    → IsFullOver images stands p script world → IsOpenedWith g stands p script world
unfolding IsFullOver
opened_with stands Spared p script images world made full = tt
opened_with stands Full p script images world made full = full made
