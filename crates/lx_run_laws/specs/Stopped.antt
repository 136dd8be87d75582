-- An event that ends a call.
use Rattle.std.specs.Prelude.{◌≡◌, ◌≢◌, ℕ, true, Some, None, [], ◌∷◌, ◌++◌, slice_get}
use Rattle.lx_caps.specs.declared.Cap.TheVariants.{Write}
use Rattle.lx_caps.specs.declared.Act.TheVariants.{Strip, ShutAll}
use Rattle.lx_caps.specs.Regions.{stack_start, stack_size}
use Rattle.lx_model.specs.declared.program.Program.{Program}
use Rattle.lx_model.specs.declared.program.ScriptCall.{ScriptCall}
use Rattle.lx_model.specs.declared.request.Outcome.{Outcome}
use Rattle.lx_model.specs.declared.request.Reply.{Reply}
use Rattle.lx_model.specs.declared.request.Reply.TheVariants.{Ended}
use Rattle.lx_model.specs.declared.request.Request.{Request}
use Rattle.lx_model.specs.Authority.{SameBut}
use Rattle.lx_model.specs.Next.{next}
use Rattle.lx_model.specs.Serve.{serve}
use Rattle.lx_model.specs.State.{State}
use Rattle.lx_model.specs.Thread.{Thread, first_fuel, has_work}
use Rattle.lx_model.specs.World.{World, event}

-- what a thread asks next
abbrev pub event_request : Program → ℕ → Thread → Request
event_request p t x = (next p t x).request

-- and what it is replied in a world
abbrev pub event_reply : Program → ℕ → World → Thread → Reply
event_reply p t w x = (serve p w.state t (event_request p t x)).reply

-- the first call of a thread has come to the outcome: it stands last among those that have ended, nothing of it is left,
-- and the thread stands before its next call
pub record HasEnded (o : Outcome) (before after : Thread) : Type 0 where
  pub call : ScriptCall
  pub was_first : before.calls ≡ call ∷ after.calls
  pub told : after.ended ≡ before.ended ++ record { function = call.function; outcome = o } ∷ []
  pub fuel : after.fuel ≡ first_fuel after.calls
  pub due : after.due ≡ None
  pub frames : after.frames ≡ []

-- what the end of a thread's call makes of a state: the thread's stack is taken from everyone, its loans end, the journal
-- has the request and the outcome, and all else is as it was
pub record IsStop (t : ℕ) (r : Request) (o : Outcome) (before after : State) : Type 0 where
  pub same : SameBut before after
  pub history : after.history ≡ ShutAll t ∷ Strip (Write (stack_start t) stack_size) ∷ before.history
  pub journal : after.journal ≡ before.journal ++ record { thread = t; request = r; reply = Ended o } ∷ []

-- an event that ends a call leaves its outcome, the end of its stack and its loans, and nothing else
pub record IsStopped (p : Program) (t : ℕ) (w : World) (x : Thread) (o : Outcome) : Type 0 where
  pub thread : (y : Thread) × (slice_get (event p t w).threads t ≡ Some y) × HasEnded o x y
  pub others : (u : ℕ) → t ≢ u → slice_get (event p t w).threads u ≡ slice_get w.threads u
  pub state : IsStop t (event_request p t x) o w.state (event p t w).state

-- each event of the thread that is replied an outcome is such
abbrev pub StopsCleanly : Program → ℕ → World → Type 0
StopsCleanly p t w =
    (x : Thread) (o : Outcome) → slice_get w.threads t ≡ Some x → has_work x ≡ true → event_reply p t w x ≡ Ended o → IsStopped p t w x o
