-- What holds of memory behind each request.
use Rattle.std.specs.Prelude.{◌≡◌, ℕ, ◌+◌, ◌<◌, true, false, Some}
use Rattle.lx_caps.specs.Memory.{Memory, byte_at, number_at}
use Rattle.lx_model.specs.declared.program.Program.{Program}
use Rattle.lx_model.specs.declared.request.Reply.{Reply}
use Rattle.lx_model.specs.declared.request.Request.{Request}
use Rattle.lx_model.specs.Serve.{serve}
use Rattle.lx_model.specs.State.{State}
use Rattle.lx_run_laws.specs.Authorised.{is_end}
use Rattle.lx_monitor_laws.specs.Bytes.{answer, byte_behind, byte_of}

pub record EffectLaws : Type 0 where
  -- a number that stands in bytes has them as its own, the least one first
  pub numbers : (m : Memory) (at size i : ℕ) → ((k : ℕ) → byte_at m k < 256) → i < size → byte_of (number_at m at size) i ≡ byte_at m (at + i)
  -- each byte behind a request that goes on
  pub bytes : (p : Program) (s : State) (t : ℕ) (r : Request) (a : ℕ) → is_end (serve p s t r).reply ≡ false
      → byte_at (serve p s t r).state.memory a ≡ byte_behind s r.what a
  -- one that ends its call leaves each byte
  pub ended : (p : Program) (s : State) (t : ℕ) (r : Request) (a : ℕ) → is_end (serve p s t r).reply ≡ true
      → byte_at (serve p s t r).state.memory a ≡ byte_at s.memory a
  -- and what a request that goes on is answered
  pub answers : (p : Program) (s : State) (t : ℕ) (r : Request) (reply : Reply) → is_end (serve p s t r).reply ≡ false → answer s r.what ≡ Some reply
      → (serve p s t r).reply ≡ reply
