use Rattle.std.proofs.Common.{◌-◌, ◌≤◌}
use Rattle.lx_surface.proofs.Beginnings.{DeclaresBelow}
use Rattle.lx_surface.proofs.opening.declare_all.Given as goal

abbrev pub invariant-loop-module : goal.invariant-loop-module
invariant-loop-module l = record {
  within : l.module ≤ l.count;
  so_far : DeclaresBelow l.names l.initial.work l.work l.module;
}

abbrev pub decreases-loop-module : goal.decreases-loop-module
decreases-loop-module l = l.count - l.module
