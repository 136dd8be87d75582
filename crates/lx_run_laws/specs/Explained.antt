-- What the replies of a run say of the states before them.
use Rattle.std.specs.Prelude.{◌≡◌, ℕ, Bool, true, false, Some, List, [], ◌∷◌, slice_get, ⊤}
use Rattle.std.specs.List.{list_all}
use Rattle.lx_words.specs.Word.{Word}
use Rattle.lx_caps.specs.declared.Principal.{Principal}
use Rattle.lx_model.specs.declared.program.Program.{Program}
use Rattle.lx_model.specs.declared.request.Outcome.TheVariants.{Refused}
use Rattle.lx_model.specs.declared.request.Refusal.{Refusal}
use Rattle.lx_model.specs.declared.request.Reply.TheVariants.{Entered, Ended}
use Rattle.lx_model.specs.declared.request.Request.{Request}
use Rattle.lx_model.specs.declared.request.Way.{Way}
use Rattle.lx_model.specs.declared.request.What.TheVariants as what
use Rattle.lx_model.specs.Next.{next}
use Rattle.lx_model.specs.Serve.{serve}
use Rattle.lx_model.specs.State.{State}
use Rattle.lx_model.specs.Thread.{Thread, has_work}
use Rattle.lx_model.specs.World.{World, event}
use Rattle.lx_run_laws.specs.Authorised.{is_end}
use Rattle.lx_run_laws.specs.Causes.{IsCauseOf, is_finish}
use Rattle.lx_run_laws.specs.Entries.{IsEntry}
use Rattle.lx_certificates.specs.Needs.{is_met}
use Rattle.lx_run_laws.specs.Needs.{needs_of, is_for_need, refuses_need, IsUnmet}

-- what the reply to a request says of the state before it
pub record IsExplained (p : Program) (s : State) (t : ℕ) (r : Request) : Type 0 where
  -- a call that entered a function entered the one that it leads to, and one that may be entered so
  pub entered : (way : Way) (args : List Word) (n : ℕ) (q : Principal) (c : Bool) → r.what ≡ what.Enter way args → (serve p s t r).reply ≡ Entered n q c
      → IsEntry p s r.who way args n
  -- where the call goes on, each need was met: held, and kept where it has to be
  pub met : is_end (serve p s t r).reply ≡ false → list_all (is_met s.history) (needs_of p s r) ≡ true
  -- and where it ends for another reason than a need
  pub met_still : refuses_need (serve p s t r).reply ≡ false → list_all (is_met s.history) (needs_of p s r) ≡ true
  -- a refusal for a need: all needs before it were met, and the refusal names it
  pub unmet : (x : Refusal) → is_finish r.what ≡ false → is_for_need x ≡ true → (serve p s t r).reply ≡ Ended (Refused x)
      → IsUnmet s r.what (needs_of p s r) x
  -- what is refused has the cause that the refusal says
  pub has_cause : (x : Refusal) → is_finish r.what ≡ false → (serve p s t r).reply ≡ Ended (Refused x) → IsCauseOf p s r x
  -- and where it has that cause, it is refused so
  pub is_refused : (x : Refusal) → IsCauseOf p s r x → (serve p s t r).reply ≡ Ended (Refused x)

-- the next event of a thread with a call left
abbrev pub IsExplainedEvent : Program → ℕ → World → Type 0
IsExplainedEvent p t w =
    (x : Thread) → slice_get w.threads t ≡ Some x → has_work x ≡ true → IsExplained p w.state t (next p t x).request

-- each event of a schedule
abbrev pub AreExplained : Program → List ℕ → World → Type 0
AreExplained p [] w = ⊤
AreExplained p (t ∷ ts) w = IsExplainedEvent p t w × AreExplained p ts (event p t w)
