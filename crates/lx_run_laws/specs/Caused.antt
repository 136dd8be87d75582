-- The refusals of a run.
use Rattle.std.specs.Prelude.{◌≡◌, ℕ, true, Some, List, [], ◌∷◌, slice_get, ⊤}
use Rattle.lx_model.specs.declared.program.Program.{Program}
use Rattle.lx_model.specs.declared.request.Outcome.TheVariants.{Refused}
use Rattle.lx_model.specs.declared.request.Refusal.{Refusal}
use Rattle.lx_model.specs.declared.request.Reply.TheVariants.{Ended}
use Rattle.lx_model.specs.declared.request.Request.{Request}
use Rattle.lx_model.specs.Next.{next}
use Rattle.lx_model.specs.Serve.{serve}
use Rattle.lx_model.specs.State.{State}
use Rattle.lx_model.specs.Thread.{Thread, has_work}
use Rattle.lx_model.specs.World.{World, event}
use Rattle.lx_run_laws.specs.Causes.{IsCauseOf}
use Rattle.lx_run_laws.specs.Needs.{needs_of, is_for_need, IsUnmet}

-- a refusal of a request has its cause, and one for a need names the need that was not met
abbrev pub IsCaused : Program → State → Request → Refusal → Type 0
IsCaused p s r x = IsCauseOf p s r x × (is_for_need x ≡ true → IsUnmet s r.what (needs_of p s r) x)

-- where the next event of a thread with a call left is a refusal
abbrev pub IsCausedEvent : Program → ℕ → World → Type 0
IsCausedEvent p t w =
    (thread : Thread) (x : Refusal) → slice_get w.threads t ≡ Some thread → has_work thread ≡ true
    → (serve p w.state t (next p t thread).request).reply ≡ Ended (Refused x) → IsCaused p w.state (next p t thread).request x

-- each event of a schedule
abbrev pub AreCaused : Program → List ℕ → World → Type 0
AreCaused p [] w = ⊤
AreCaused p (t ∷ ts) w = IsCausedEvent p t w × AreCaused p ts (event p t w)
