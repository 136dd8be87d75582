-- What a trace of a program tells.
use Rattle.std.specs.Prelude.{◌≡◌, ℕ, List, Option, Some}
use Rattle.lx_model.specs.declared.program.Program.{Program}
use Rattle.lx_model.specs.declared.program.ScriptCall.{ScriptCall}
use Rattle.lx_model.specs.World.{opening}
use Rattle.lx_runs.specs.Reports.{broken_at}
use Rattle.lx_runs.specs.declared.told.Told.{Told}
use Rattle.lx_runs.specs.declared.told.Told.TheVariants as told
use Rattle.lx_trace.specs.Trace.{IsTrace}

-- of a program and its calls, under the schedule that is asked for: where it is not whole, or the trace and whether every call returned
abbrev pub TellsTrace : Program → List (List ScriptCall) → Option (List ℕ) → Told → Type 0
TellsTrace p script asked (told.Broken entry) = (s : List ℕ) × (asked ≡ Some s) × (broken_at p s (opening p script) ≡ Some entry)
TellsTrace p script asked (told.Report text returned) = (s : List ℕ) × (asked ≡ Some s) × IsTrace p script s returned text
