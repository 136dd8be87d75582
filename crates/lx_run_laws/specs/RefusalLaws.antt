-- What holds of every reply.
use Rattle.std.specs.Prelude.{ℕ, List}
use Rattle.lx_model.specs.declared.program.Program.{Program}
use Rattle.lx_model.specs.declared.program.ScriptCall.{ScriptCall}
use Rattle.lx_model.specs.declared.request.Request.{Request}
use Rattle.lx_model.specs.State.{State}
use Rattle.lx_model.specs.World.{World, opening}
use Rattle.lx_run_laws.specs.Caused.{AreCaused}
use Rattle.lx_run_laws.specs.Explained.{IsExplained, AreExplained}

pub record RefusalLaws : Type 0 where
  -- whatever is asked in whatever state
  pub replies : (p : Program) (s : State) (t : ℕ) (r : Request) → IsExplained p s t r
  -- each event of each run
  pub runs : (p : Program) (schedule : List ℕ) (w : World) → AreExplained p schedule w
  -- and each refusal of each run from the opening has its cause, since no thread there brings a refusal itself
  pub caused : (p : Program) (script : List (List ScriptCall)) (schedule : List ℕ) → AreCaused p schedule (opening p script)
