-- Worlds of images whose threads have run.
use Rattle.std.specs.Prelude.{◌≡◌, true, List}
use Rattle.lx_caps.specs.History.{History}
use Rattle.lx_model.specs.World.{World as MonitorWorld}
use Rattle.lx_images.specs.Image.{Code}
use Rattle.lx_images.specs.ImageWorld.{ImageWorld}
use Rattle.lx_images.specs.Shown.{image_is_whole}
use Rattle.lx_caplock.specs.declared.knowledge.Entry.{Entry}
use Rattle.lx_threads.specs.Monitor.{threads_of}
use Rattle.lx_world.specs.declared.world.World.{World}
use Rattle.lx_world.specs.Worlds.{StandsForWorld}
use Rattle.lx_threads.specs.Imaged.{IsImageRun}
use Rattle.lx_threads.specs.Monitored.{StandsThroughout, IsMonitored}

-- the world stands for what the history leaves of the one before: the run of images under the threads of its entries, an event
-- for each entry, which leaves no work; and it is the monitor's run of each world that the one before stood for throughout
pub record HasRun {C : Type 0} (stands : C → History → Type 0) (new : World C) (c : Code) (history : List Entry) (before behind : ImageWorld) : Type 0 where
  pub stands_for : StandsForWorld stands c new behind
  pub run : IsImageRun c before history behind
  pub whole : image_is_whole c (threads_of history) before ≡ true
  pub monitored : (w : MonitorWorld) → StandsThroughout c w before → IsMonitored c w history behind

-- the threads of the world have run to their ends: one history of all that the lock served says how, whatever the world stood for
pub record AreRun {C : Type 0} (stands : C → History → Type 0) (old new : World C) : Type 0 where
  pub history : List Entry
  pub runs : (c : Code) (before : ImageWorld) → StandsForWorld stands c old before → (behind : ImageWorld) × HasRun stands new c history before behind
