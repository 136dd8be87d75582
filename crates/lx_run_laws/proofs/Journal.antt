-- A request that is served adds its own entry to the journal.
use Rattle.std.proofs.Common.{◌≡◌, ℕ, Option, Some, None, [], ◌∷◌, ◌++◌, refl, ap}
use Rattle.lx_model.specs.declared.program.Program.{Program}
use Rattle.lx_model.specs.declared.request.Outcome.{Outcome}
use Rattle.lx_model.specs.declared.request.Request.{Request}
use Rattle.lx_model.specs.Decide.{decide}
use Rattle.lx_model.specs.Serve.{serve, serve_by}
use Rattle.lx_model.specs.State.{State}
use Rattle.lx_model.proofs.Journals.{granted_journal}

pub decided : (d : Option Outcome) (p : Program) (s : State) (t : ℕ) (r : Request) → (serve_by d p s t r).state.journal ≡ s.journal
decided None p s t r = granted_journal p s t r.who r.what
decided (Some o) p s t r = refl

pub noted : (p : Program) (s : State) (t : ℕ) (r : Request)
    → (serve p s t r).state.journal ≡ s.journal ++ record { thread = t; request = r; reply = (serve p s t r).reply } ∷ []
noted p s t r = ap (λ journal. journal ++ record { thread = t; request = r; reply = (serve p s t r).reply } ∷ []) (decided (decide p s t r) p s t r)
