use Rattle.std.proofs.Common.{◌-◌, ◌≤◌}
use Rattle.lx_surface.specs.Given.{Gave}
use Rattle.lx_surface.specs.Naming.{is_function_below}
use Rattle.lx_surface.proofs.giving.give_each_function.Given as goal

abbrev pub invariant-loop-number : goal.invariant-loop-number
invariant-loop-number l = record {
  within : l.number ≤ l.count;
  so_far : Gave l.program l.initial.work l.work l.gift.to l.gift.from (is_function_below l.program l.number);
}

abbrev pub decreases-loop-number : goal.decreases-loop-number
decreases-loop-number l = l.count - l.number
