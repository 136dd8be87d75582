-- Serving adds nothing to the journal.
use Rattle.std.proofs.Common.{◌≡◌, refl, ℕ, Option, Some, None}
use Rattle.lx_model.specs.declared.program.Program.{Program}
use Rattle.lx_model.specs.declared.request.Outcome.{Outcome}
use Rattle.lx_model.specs.declared.request.Request.{Request}
use Rattle.lx_model.specs.State.{State}
use Rattle.lx_model.specs.Serve.{serve_by}
use Rattle.lx_model.proofs.Journals.{granted_journal}

pub served_journal : (p : Program) (s : State) (t : ℕ) (r : Request) (d : Option Outcome) → (serve_by d p s t r).state.journal ≡ s.journal
served_journal p s t r (Some o) = refl
served_journal p s t r None = granted_journal p s t r.who r.what
