-- What is known of a linked program's run beside that, where the calls that are made from outside fit.
use Rattle.std.specs.Prelude.{◌≡◌, ℕ, Some, List, slice_get}
use Rattle.lx_model.specs.declared.program.Program.{Program}
use Rattle.lx_model.specs.declared.program.ScriptCall.{ScriptCall}
use Rattle.lx_model.specs.Fits.{Fits}
use Rattle.lx_model.specs.Next.{next}
use Rattle.lx_model.specs.Thread.{Thread}
use Rattle.lx_model.specs.World.{World, opening, run}
use Rattle.lx_linked.specs.Alike.{AlikeWorlds}
use Rattle.lx_linked.specs.Filled.{Fill, filled_run}

-- what each thread of a world asks for names what is there, with as many arguments as it takes and as wide ones, and keeps to the
-- thread's stack
abbrev pub AsksLawfully : Program → World → Type 0
AsksLawfully p w = (t : ℕ) (thread : Thread) → slice_get w.threads t ≡ Some thread → Fits p t (next p t thread).request

-- the run of a script under a schedule
pub record IsFittingRun (p : Program) (script : List (List ScriptCall)) (schedule : List ℕ) : Type 0 where
  -- whatever words functions begin with in the place of blank ones, the run is the same, and what an instruction reads is the same word:
  -- nobody reads a register that is no parameter and that nothing has given
  pub assigned : (fill : Fill) → AlikeWorlds fill p (run p schedule (opening p script)) (filled_run fill p schedule (opening p script))
  -- in each world on the way what is asked for is lawful
  pub lawful : (s : List ℕ) → AsksLawfully p (run p s (opening p script))
