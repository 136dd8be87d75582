use Rattle.std.proofs.Common.{◌-◌, ◌≤◌}
use Rattle.lx_surface.proofs.Beginnings.{OpensBelow}
use Rattle.lx_surface.proofs.opening.open_functions.Given as goal

abbrev pub invariant-loop-function : goal.invariant-loop-function
invariant-loop-function l = record {
  within : l.function ≤ l.count;
  so_far : OpensBelow l.program l.initial.work l.work l.function;
}

abbrev pub decreases-loop-function : goal.decreases-loop-function
decreases-loop-function l = l.count - l.function
