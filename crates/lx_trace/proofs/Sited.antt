-- What a function asks for has its line.
use Rattle.std.proofs.Common.{◌≡◌, ◌∙◌, ap, ℕ, List, Some}
use Rattle.std.specs.Prelude.{option_map, slice_get}
use Rattle.lx_link_texts.specs.WellFormed.{FitsCalls, IsWellFormed}
use Rattle.lx_model.specs.declared.program.Program.{Program}
use Rattle.lx_model.specs.declared.program.ScriptCall.{ScriptCall}
use Rattle.lx_model.specs.Thread.{Thread}
use Rattle.lx_code_lines.specs.PlaceLaws.{PlaceLaws}
use Rattle.lx_code_lines.specs.Place.{Place, asks_at}
use Rattle.lx_trace.specs.TraceLaws.{IsNoEnd}
use Rattle.lx_trace.specs.Trace.{behind, site, site_of, traced}

pub has_site : PlaceLaws → (p : Program) → IsWellFormed p → (script : List (List ScriptCall)) (schedule : List ℕ) → FitsCalls p script → (t : ℕ) (thread : Thread) → slice_get (behind p script schedule).threads t ≡ Some thread
    → IsNoEnd (traced p t (behind p script schedule) thread) → (x : Place) → asks_at p t thread ≡ Some x → (line : ℕ) × ((traced p t (behind p script schedule) thread).site ≡ Some (site x.function line))
has_site laws p formed script schedule fits t thread got more x at =
    let means = (laws.has_line p formed script schedule fits t thread got more x at).1 in
    (means.instr.line, ap (site_of p) at ∙ ap (option_map (site x.function)) means.line)
