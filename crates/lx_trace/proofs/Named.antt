-- What is traced where a schedule is named.
use Rattle.std.proofs.Common.{◌≡◌, subst, ℕ, Bool, List, Option, Some}
use Rattle.lx_model.specs.World.{opening}
use Rattle.lx_input.specs.declared.input.Input.{Input}
use Rattle.lx_runs.specs.Reports.{IsAsked, broken_at}
use Rattle.lx_cli.specs.declared.answer.Answer.TheVariants as answer
use Rattle.lx_trace.specs.Trace.{IsTrace}
use Rattle.lx_trace.specs.Traced.{TellsTraceOf, TraceCommandLaws}

named_trace : (i : Input) (s text : List ℕ) (returned : Bool) → i.besides.schedule ≡ Some s → TellsTraceOf i (answer.Report text returned) → IsTrace i.program i.script s returned text
named_trace i s text returned named told =
    let same : told.0 ≡ s = subst (λ (o : Option (List ℕ)). IsAsked o told.0) named told.1 in
    subst (λ (l : List ℕ). IsTrace i.program i.script l returned text) same told.2

named_break : (i : Input) (s : List ℕ) (entry : ℕ) → i.besides.schedule ≡ Some s → TellsTraceOf i (answer.Broken entry) → broken_at i.program s (opening i.program i.script) ≡ Some entry
named_break i s entry named told =
    let same : told.0 ≡ s = subst (λ (o : Option (List ℕ)). IsAsked o told.0) named told.1 in
    subst (λ (l : List ℕ). broken_at i.program l (opening i.program i.script) ≡ Some entry) same told.2

pub trace_command_laws : TraceCommandLaws
trace_command_laws = record { named = named_trace; broken = named_break }
