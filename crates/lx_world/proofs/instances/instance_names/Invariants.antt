use Rattle.std.proofs.Common.{◌≡◌}
use Rattle.std.specs.List.{flat_map}
use Rattle.lx_model.specs.Account.{instance_names}
use Rattle.lx_slot_types.specs.Gets.{below}
use Rattle.lx_world.proofs.instances.instance_names.Given as goal

abbrev pub invariant-loop-home : goal.invariant-loop-home
invariant-loop-home l = l.out.items ≡ flat_map (instance_names l.names.names) (below l.home)
