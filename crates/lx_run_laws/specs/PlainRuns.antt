-- Runs of the monitor beside runs of the plain programs.
use Rattle.std.specs.Prelude.{◌≡◌, ℕ, Bool, true, false, not, ◌&&◌, Option, Some, None, List, [], ◌∷◌, slice_get, ⊤}
use Rattle.std.specs.List.{list_all}
use Rattle.lx_model.specs.declared.program.Program.{Program}
use Rattle.lx_model.specs.declared.program.ScriptCall.{ScriptCall}
use Rattle.lx_model.specs.Account.{outcomes_of}
use Rattle.lx_model.specs.Next.{next}
use Rattle.lx_model.specs.Plain.{plain_event, plain_run, forget_world}
use Rattle.lx_model.specs.PlainLaws.{is_refused, is_refusal}
use Rattle.lx_model.specs.Serve.{serve}
use Rattle.lx_model.specs.Thread.{Thread, has_work}
use Rattle.lx_model.specs.World.{World, event, opening, run}

-- the thread has a call left, and what it asks next is refused
abbrev pub refuses : Option Thread → Program → ℕ → World → Bool
refuses None p t w = false
refuses (Some thread) p t w = has_work thread && is_refusal (serve p w.state t (next p t thread).request).reply

-- the reply of the event is a refusal
abbrev pub is_refused_event : Program → ℕ → World → Bool
is_refused_event p t w = refuses (slice_get w.threads t) p t w

-- an event that is not refused changes memory, heap, notes and threads as the plain programs' event does
abbrev pub IsPlain : Program → ℕ → World → Type 0
IsPlain p t w = is_refused_event p t w ≡ false → plain_event p t (forget_world w) ≡ forget_world (event p t w)

-- each event of a schedule that is not refused does
abbrev pub ArePlain : Program → List ℕ → World → Type 0
ArePlain p [] w = ⊤
ArePlain p (t ∷ ts) w = IsPlain p t w × ArePlain p ts (event p t w)

-- no event of a schedule is refused
abbrev pub is_unrefused : Program → List ℕ → World → Bool
is_unrefused p [] w = true
is_unrefused p (t ∷ ts) w = not (is_refused_event p t w) && is_unrefused p ts (event p t w)

-- no call that has ended came to a refusal
abbrev pub none_refused : World → Bool
none_refused w = list_all (λ c. not (is_refused c.outcome)) (outcomes_of w)

-- the monitor's run of a script beside the plain programs' run under the same schedule
pub record IsPlainRun (p : Program) (script : List (List ScriptCall)) (schedule : List ℕ) : Type 0 where
  -- each event that is not refused is the plain programs' event
  pub events : ArePlain p schedule (opening p script)
  -- where no event is refused, memory, heap, notes and threads at the end are those of the plain programs' run
  pub unrefused : is_unrefused p schedule (opening p script) ≡ true
      → plain_run p schedule (forget_world (opening p script)) ≡ forget_world (run p schedule (opening p script))
  -- an event that is refused is an outcome of the account
  pub told : none_refused (run p schedule (opening p script)) ≡ true → is_unrefused p schedule (opening p script) ≡ true
