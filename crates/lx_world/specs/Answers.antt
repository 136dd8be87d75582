-- What is served answers what images ask.
use Rattle.std.specs.Prelude.{◌≡◌, ℕ, ◌<◌, true}
use Rattle.lx_model.specs.declared.program.Program.{Program}
use Rattle.lx_model.specs.declared.request.Request.{Request}
use Rattle.lx_model.specs.Serve.{serve}
use Rattle.lx_model.specs.State.{State}
use Rattle.lx_interp.specs.Runner.{may_answer}

pub record ImageAnswerLaws : Type 0 where
  -- what is served to a thread may answer what it asks
  pub answers : (p : Program) (s : State) (t : ℕ) (r : Request) → t < 16 → may_answer r.what (serve p s t r).reply ≡ true
