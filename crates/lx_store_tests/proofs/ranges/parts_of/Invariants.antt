use Rattle.std.proofs.Common.{◌+◌, ◌*◌, ◌^◌, ◌<◌}
use Rattle.std.specs.List.{All}
use Rattle.lx_store_tests.proofs.ranges.parts_of.Given as goal

abbrev pub invariant-loop-part : goal.invariant-loop-part
invariant-loop-part l = All (λ x. x.part * 64 + 64 < 2 ^ 64) l.made.items
