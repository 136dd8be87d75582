use Rattle.std.proofs.Common.{◌≡◌, take}
use Rattle.std.specs.List.{flat_map, enumerate_from}
use Rattle.lx_world.specs.Accounts.{runner_outcomes}
use Rattle.lx_world.proofs.outcomes.outcomes.Given as goal

abbrev pub invariant-loop-thread : goal.invariant-loop-thread
invariant-loop-thread l = l.out.items ≡ flat_map runner_outcomes (take l.thread (enumerate_from 0 l.runners))
