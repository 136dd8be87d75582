-- A run of images that certifies stands for the monitor's run of the program behind the events of a schedule.
use Rattle.std.specs.Prelude.{◌≡◌, ℕ, ◌≤◌, List, length, reverse}
use Rattle.lx_caps.specs.History.{History, without_zeros}
use Rattle.lx_caps.specs.declared.Act.{Act}
use Rattle.lx_ir.specs.declared.module.Module.{Module}
use Rattle.lx_model.specs.declared.program.Program.{Program}
use Rattle.lx_model.specs.declared.program.ScriptCall.{ScriptCall}
use Rattle.lx_model.specs.World.{World}
use Rattle.lx_images.specs.Guarded.{Accepted}
use Rattle.lx_images.specs.ImageWorld.{image_opening, image_run}
use Rattle.lx_simulation.specs.Images.{code_of}
use Rattle.lx_simulation.specs.Simulation.{AllGuarded}
use Rattle.lx_world.specs.Wants.{asked_of}
use Rattle.lx_world.specs.Worlds.{StandsForWorld}
use Rattle.lx_why.specs.Certified.{asks_next}
use Rattle.lx_why.specs.declared.logged.Logged.{Logged}
use Rattle.lx_why.specs.declared.run.WhyRun.{WhyRun}
use Rattle.lx_why.specs.Noted.{HasNoted}
use Rattle.lx_why.specs.Why.{behind}

-- the acts of a world, the oldest first, as a store has them
abbrev pub acts_of : World → List Act
acts_of w = reverse (without_zeros w.state.history)

-- its world stands for the images' behind these events, images in which each store has its guard, and its index for acts of the world's
pub record StandsForWhy {C : Type 0} (stands : Logged C → History → Type 0) (p : Program) (script : List (List ScriptCall)) (schedule : List ℕ) (r : WhyRun C) : Type 0 where
  pub images : List Module
  pub accepted : Accepted (code_of p images)
  pub guarded : AllGuarded (code_of p images)
  pub world : StandsForWorld stands (code_of p images) r.world (image_run (code_of p images) schedule (image_opening (code_of p images) script))
  pub noted : HasNoted r.noted (acts_of (behind p script schedule))
  pub within : r.noted.seen ≤ length (acts_of (behind p script schedule))

-- the acts so far are noted, and what the thread asks next is known
pub record IsPrepared {C : Type 0} (stands : Logged C → History → Type 0) (p : Program) (script : List (List ScriptCall)) (schedule : List ℕ) (t : ℕ) (r : WhyRun C) : Type 0 where
  pub stands_for : StandsForWhy stands p script schedule r
  pub caught_up : length (acts_of (behind p script schedule)) ≤ r.noted.seen
  pub asks : asked_of r.world t ≡ asks_next p t (behind p script schedule)
