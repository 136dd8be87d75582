-- What a run tells that is certified.
use Rattle.std.specs.Prelude.{◌≡◌, ℕ, List, Option, Some}
use Rattle.lx_model.specs.declared.program.Program.{Program}
use Rattle.lx_model.specs.declared.program.ScriptCall.{ScriptCall}
use Rattle.lx_model.specs.World.{opening}
use Rattle.lx_why.specs.Why.{IsWhy}
use Rattle.lx_runs.specs.Reports.{broken_at}
use Rattle.lx_runs.specs.declared.why.Why.{Why}
use Rattle.lx_runs.specs.declared.why.Why.TheVariants as why

-- of a program and its calls, under the schedule that is asked for
abbrev pub TellsWhy : Program → List (List ScriptCall) → Option (List ℕ) → Why → Type 0
TellsWhy p script asked (why.Broken entry) = (s : List ℕ) × (asked ≡ Some s) × (broken_at p s (opening p script) ≡ Some entry)
TellsWhy p script asked (why.Text text) = (s : List ℕ) × (asked ≡ Some s) × IsWhy p script s text
