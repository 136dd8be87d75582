-- The runs of a schedule whose first run has begun.
use Rattle.std.specs.Prelude.{ℕ, ◌+◌, true, false, Option, Some, None, List, [], ◌∷◌, nat_eq}
use Rattle.lx_report.specs.declared.schedule.Begun.{Begun}
use Rattle.lx_report.specs.Runs.{Run, run}

abbrev pub begun : ℕ → ℕ → Begun
begun t n = record { thread = t; count = n }

abbrev pub closed : Option Begun → List Run
closed None = []
closed (Some b) = run b.thread b.count ∷ []

-- how many events the run has so far
abbrev pub begun_count : Option Begun → ℕ
begun_count None = 0
begun_count (Some b) = b.count

abbrev pub runs_from : Option Begun → List ℕ → List Run
runs_from b [] = closed b
runs_from None (t ∷ ts) = runs_from (Some (begun t 1)) ts
runs_from (Some b) (t ∷ ts) =
    elim (nat_eq t b.thread) [
      | true ↦ runs_from (Some (begun b.thread (b.count + 1))) ts
      | false ↦ run b.thread b.count ∷ runs_from (Some (begun t 1)) ts
    ]
