-- The threads of images as a machine that asks, and its runs.
use Rattle.std.specs.Prelude.{◌≡◌, true, List, ◌++◌}
use Rattle.lx_model.specs.Account.{schedule_of}
use Rattle.lx_model.specs.Thread.{has_call}
use Rattle.lx_model.specs.World.{is_done}
use Rattle.lx_images.specs.Image.{Code, ImageThread, image_next, image_absorb}
use Rattle.lx_images.specs.ImageWorld.{ImageWorld, image_run}
use Rattle.lx_images.specs.Shown.{shown, image_is_whole}
use Rattle.lx_caplock.specs.declared.knowledge.Entry.{Entry}
use Rattle.lx_caplock.specs.Serving.{state_after}
use Rattle.lx_threads.specs.Machines.{Machine, AreEvents}
use Rattle.lx_threads.specs.Monitor.{threads_of}

-- a thread of the code's images: it works while it has a call left, and asks its next request
abbrev pub imaged : Code → Machine ImageThread
imaged c = record {
  works = λ v. has_call v.calls;
  asks = λ t v. (image_next c v).request;
  absorbs = λ t v reply. image_absorb c t (image_next c v).thread (image_next c v).request reply;
}

-- the history is the run of images from a world: each entry is the event of its thread at its place, and the schedule goes on by
-- the threads of the history
pub record IsImageRun (c : Code) (before : ImageWorld) (history : List Entry) (behind : ImageWorld) : Type 0 where
  pub events : AreEvents (imaged c) c.program before.state before.threads history behind.threads
  pub run : behind ≡ image_run c (threads_of history) before
  pub schedule : schedule_of (shown behind) ≡ schedule_of (shown before) ++ threads_of history

-- the world behind a history, with these threads
abbrev pub images_behind : Code → ImageWorld → List Entry → List ImageThread → ImageWorld
images_behind c before history threads = record { state = state_after c.program before.state history; threads = threads }

-- events are a run of images; and where no thread has work behind them, their schedule is whole
pub record ImageMonitorLaws : Type 0 where
  pub runs : (c : Code) (before : ImageWorld) (history : List Entry) (threads : List ImageThread) → AreEvents (imaged c) c.program before.state before.threads history threads
      → IsImageRun c before history (images_behind c before history threads)
  pub whole : (c : Code) (before : ImageWorld) (history : List Entry) (threads : List ImageThread) → AreEvents (imaged c) c.program before.state before.threads history threads
      → is_done (shown (images_behind c before history threads)) ≡ true → image_is_whole c (threads_of history) before ≡ true
