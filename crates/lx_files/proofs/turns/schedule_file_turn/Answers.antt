use Rattle.std.proofs.Common.{subst, ℕ, List, Err}
use Rattle.std.proofs.lemmas.Result.{err_from_is_err_and}
use Rattle.lx_script.specs.Schedule.{Reads as SaysSchedule, FirstScheduleFault}
use Rattle.lx_files.specs.declared.line.FaultKind.TheVariants as kinds
use Rattle.lx_files.specs.Faults.{script_line}
use Rattle.lx_files.specs.Turns.{Tells}
use Rattle.lx_files.specs.Inputs.{ReadsSchedule}
use Rattle.lx_files.proofs.Parts.{file_then}
use Rattle.lx_files.proofs.turns.schedule_file_turn.Goals as goal

pub returns-in_err-entries : goal.returns-in_err-entries
returns-in_err-entries g c =
    let p = err_from_is_err_and c.from_residual-in_err-entries.result c.from_residual-in_err-entries.ensures.1 in
    let e = c.in_err-entries.field-0.0 in
    rw (p.1, p.2) (file_then SaysSchedule (Tells FirstScheduleFault (script_line kinds.Schedule c.args.name.now)) c.args.name.now c.in_ok-text.text (Err e) c.in_ok-text.ensures.turn
    (subst (λ (file : List ℕ). ReadsSchedule file c.in_ok-text.text (Err e)) c.as_bytes.ensures.value
    (subst (λ (text : List ℕ). ReadsSchedule c.as_bytes.result.now text (Err e)) c.as_slice.ensures c.in_err-entries.ensures)))
