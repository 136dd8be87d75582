use Rattle.std.proofs.Common.{◌≡◌, ◌≤◌, ◌++◌, None, drop}
use Rattle.std.specs.List.{flat_map}
use Rattle.lx_report.specs.Begun.{begun_count, runs_from}
use Rattle.lx_report.specs.Report.{run_text}
use Rattle.lx_report.proofs.schedule.put_runs.Given as goal

abbrev pub invariant-loop-thread : goal.invariant-loop-thread
invariant-loop-thread l =
    (begun_count l.begun ≤ l.thread-index)
    × (l.out.items ++ flat_map run_text (runs_from l.begun (drop l.thread-index l.schedule)) ≡ l.fn.out.items ++ flat_map run_text (runs_from None l.schedule))
