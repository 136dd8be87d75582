-- What holds of every run.
use Rattle.std.specs.Prelude.{ℕ, ◌≤◌, List, length}
use Rattle.lx_caps.specs.Placed.{AllPlaced}
use Rattle.lx_model.specs.declared.program.Program.{Program}
use Rattle.lx_model.specs.declared.program.ScriptCall.{ScriptCall}
use Rattle.lx_model.specs.Opening.{opening_history}
use Rattle.lx_model.specs.World.{World, opening, run}
use Rattle.lx_run_laws.specs.Authorised.{AreAuthorised}
use Rattle.lx_run_laws.specs.PlainRuns.{IsPlainRun}

pub record RunLaws : Type 0 where
  -- what each event needed was held in the state before it by the principal on its thread's stack, and a call that is stopped changes nothing else
  pub authorised : (p : Program) (schedule : List ℕ) (w : World) → AreAuthorised p schedule w
  -- what is granted, stripped and zeroed in a run lies in memory, where what is granted before the first call does
  pub placed : (p : Program) (script : List (List ScriptCall)) (schedule : List ℕ) → length script ≤ 16 → AllPlaced (opening_history p)
      → AllPlaced (run p schedule (opening p script)).state.history
  -- each event of a run that is not refused is the plain programs' event, and a run without refusals is their run
  pub plain : (p : Program) (script : List (List ScriptCall)) (schedule : List ℕ) → length script ≤ 16 → AllPlaced (opening_history p)
      → IsPlainRun p script schedule
