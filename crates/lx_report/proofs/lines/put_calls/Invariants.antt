use Rattle.std.proofs.Common.{◌≡◌, ◌++◌, take}
use Rattle.std.specs.List.{flat_map, enumerate_from}
use Rattle.lx_report.specs.Report.{call_line_of}
use Rattle.lx_report.proofs.lines.put_calls.Given as goal

abbrev pub invariant-loop-k : goal.invariant-loop-k
invariant-loop-k l =
    l.out.items ≡ l.fn.out.items ++ flat_map (call_line_of l.told.teller.program.now l.calls l.told.teller.names) (take l.k (enumerate_from 0 l.calls))
