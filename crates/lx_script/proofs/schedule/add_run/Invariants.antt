use Rattle.std.proofs.Common.{◌≡◌, ◌++◌}
use Rattle.std.specs.Prelude.{replicate}
use Rattle.lx_script.proofs.schedule.add_run.Given as goal

abbrev pub invariant-loop : goal.invariant-loop
invariant-loop l = l.entries ≡ l.fn.entries ++ replicate l.counter l.run.thread
