-- What threads ask may be served.
use Rattle.std.specs.Prelude.{◌≡◌, ℕ, ◌<◌, true}
use Rattle.lx_model.specs.declared.program.Program.{Program}
use Rattle.lx_model.specs.Thread.{Thread}
use Rattle.lx_model.specs.Next.{next, absorb}
use Rattle.lx_model.specs.State.{State}
use Rattle.lx_model.specs.Serve.{serve}
use Rattle.lx_run_laws.specs.Servable.{is_servable}
use Rattle.lx_run_laws.specs.OnStack.{AreOnStack}

pub record RequestLaws : Type 0 where
  -- what a thread asks whose functions keep to its stack may be served; a thread without frames is such
  pub asks : (p : Program) (t : ℕ) (x : Thread) → t < 16 → AreOnStack t x.frames → is_servable p t (next p t x).request ≡ true
  -- behind the reply that it is served, its functions keep to its stack
  pub stays : (p : Program) (s : State) (t : ℕ) (x : Thread) → AreOnStack t x.frames →
      AreOnStack t (absorb p t (next p t x).thread (next p t x).request (serve p s t (next p t x).request).reply).frames
