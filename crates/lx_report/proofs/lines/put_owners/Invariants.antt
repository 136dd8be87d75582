use Rattle.std.proofs.Common.{◌≡◌, ◌++◌, take}
use Rattle.std.specs.List.{flat_map}
use Rattle.lx_report.specs.Report.{owner_line}
use Rattle.lx_report.proofs.lines.put_owners.Given as goal

abbrev pub invariant-loop-owned : goal.invariant-loop-owned
invariant-loop-owned l =
    l.out.items ≡ l.fn.out.items ++ flat_map (owner_line l.told.teller.program.now l.told.teller.names) (take l.owned-index l.owners)
