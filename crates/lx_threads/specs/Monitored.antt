-- Threads of images that ran beside each other, in the words of the monitor.
use Rattle.std.specs.Prelude.{◌≡◌, ℕ, true, Some, List, [], ◌∷◌, ◌++◌, slice_get}
use Rattle.lx_model.specs.declared.program.Program.{Program}
use Rattle.lx_model.specs.Account.{schedule_of}
use Rattle.lx_model.specs.Next.{next}
use Rattle.lx_model.specs.Serve.{serve}
use Rattle.lx_model.specs.Thread.{Thread, has_work}
use Rattle.lx_model.specs.World.{World, event, run, is_done, is_whole}
use Rattle.lx_images.specs.Image.{Code}
use Rattle.lx_images.specs.ImageWorld.{ImageWorld, image_run}
use Rattle.lx_images.specs.Stands.{StandsFor}
use Rattle.lx_caplock.specs.declared.knowledge.Entry.{Entry}
use Rattle.lx_threads.specs.Monitor.{threads_of}

-- whatever the schedule, the world of images stands for the monitor's world of the program without guards
abbrev pub StandsThroughout : Code → World → ImageWorld → Type 0
StandsThroughout c w v = (schedule : List ℕ) → StandsFor c (run c.program schedule w) (image_run c schedule v)

-- the entry is the monitor's event: its thread has work and asks for the same, and is served the same reply
pub record IsMonitorEvent (p : Program) (w : World) (e : Entry) : Type 0 where
  pub thread : Thread
  pub there : slice_get w.threads e.thread ≡ Some thread
  pub work : has_work thread ≡ true
  pub what : e.request.what ≡ (next p e.thread thread).request.what
  pub reply : e.reply ≡ (serve p w.state e.thread (next p e.thread thread).request).reply

-- so is each entry at its place
abbrev pub AreMonitorEvents : Program → World → List Entry → Type 0
AreMonitorEvents p w [] = Unit {0}
AreMonitorEvents p w (e ∷ es) = IsMonitorEvent p w e × AreMonitorEvents p (event p e.thread w) es

-- the history is the monitor's run from this world, under a schedule that goes on by the threads of the history and leaves no work;
-- the world of images behind it stands for the one behind that run
pub record IsMonitored (c : Code) (before : World) (history : List Entry) (behind : ImageWorld) : Type 0 where
  pub events : AreMonitorEvents c.program before history
  pub stands_for : StandsFor c (run c.program (threads_of history) before) behind
  pub schedule : schedule_of (run c.program (threads_of history) before) ≡ schedule_of before ++ threads_of history
  pub done : is_done (run c.program (threads_of history) before) ≡ true
  pub whole : is_whole c.program (threads_of history) before ≡ true
