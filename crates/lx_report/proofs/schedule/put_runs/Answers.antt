use Rattle.std.proofs.Common.{ℕ, List, ◌++◌, ◌∙◌, ap, sym, arith}
use Rattle.std.specs.List.{flat_map}
use Rattle.std.proofs.lemmas.List.{drop_all}
use Rattle.std.proofs.lemmas.Result.{IfOk-equal}
use Rattle.lx_report.specs.Begun.{runs_from}
use Rattle.lx_report.specs.Report.{run_text}
use Rattle.lx_report.specs.Runs.{Run}
use Rattle.lx_report.proofs.Runs.{runs_from_none}
use Rattle.lx_report.proofs.schedule.put_runs.Goals as goal

pub returns : goal.returns
returns c =
    let s = c.args.schedule.now in
    let l = c.loop-thread in
    let here = λ (rest : List ℕ). l.out.items ++ flat_map run_text (runs_from l.begun rest) in
    let there = λ (rs : List Run). c.args.out.now.items ++ flat_map run_text rs in
    IfOk-equal c.put_begun.result _ _ _ c.put_begun.ensures
    (sym (ap here (drop_all l.thread-index s (omega arith))) ∙ l.invariant.1 ∙ ap there (runs_from_none s))
