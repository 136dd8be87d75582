-- The monitor's threads as a machine that asks, and its runs.
use Rattle.std.specs.Prelude.{◌≡◌, ℕ, true, List, map, ◌++◌}
use Rattle.lx_model.specs.declared.program.Program.{Program}
use Rattle.lx_model.specs.Account.{schedule_of}
use Rattle.lx_model.specs.Next.{next, absorb}
use Rattle.lx_model.specs.Thread.{Thread, has_work}
use Rattle.lx_model.specs.World.{World, run, is_done, is_whole}
use Rattle.lx_caplock.specs.declared.knowledge.Entry.{Entry}
use Rattle.lx_caplock.specs.Serving.{state_after}
use Rattle.lx_threads.specs.Machines.{Machine, AreEvents}

abbrev pub monitored : Program → Machine Thread
monitored p = record {
  works = has_work;
  asks = λ t x. (next p t x).request;
  absorbs = λ t x reply. absorb p t (next p t x).thread (next p t x).request reply;
}

-- the threads of a history's entries
abbrev pub threads_of : List Entry → List ℕ
threads_of history = map (λ e. e.thread) history

-- the history is the monitor's run from a world: each entry is the event of its thread at its place, and the schedule goes on
-- by the threads of the history
pub record IsRun (p : Program) (before : World) (history : List Entry) (behind : World) : Type 0 where
  pub events : AreEvents (monitored p) p before.state before.threads history behind.threads
  pub run : behind ≡ run p (threads_of history) before
  pub schedule : schedule_of behind ≡ schedule_of before ++ threads_of history

-- the world behind a history, with these threads
abbrev pub world_behind : Program → World → List Entry → List Thread → World
world_behind p before history threads = record { state = state_after p before.state history; threads = threads }

-- events are the monitor's run; and where no thread has work behind them, their schedule is whole
pub record MonitorLaws : Type 0 where
  pub runs : (p : Program) (before : World) (history : List Entry) (threads : List Thread) → AreEvents (monitored p) p before.state before.threads history threads → IsRun p before history (world_behind p before history threads)
  pub whole : (p : Program) (before : World) (history : List Entry) (threads : List Thread) → AreEvents (monitored p) p before.state before.threads history threads → is_done (world_behind p before history threads) ≡ true
      → is_whole p (threads_of history) before ≡ true
