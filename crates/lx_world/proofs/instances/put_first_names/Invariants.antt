use Rattle.std.proofs.Common.{◌≡◌, ◌++◌}
use Rattle.std.specs.List.{filter_map}
use Rattle.lx_model.specs.Account.{instance_name}
use Rattle.lx_slot_types.specs.Gets.{below}
use Rattle.lx_world.proofs.instances.put_first_names.Given as goal

abbrev pub invariant-loop-instance : goal.invariant-loop-instance
invariant-loop-instance l = l.out.items ≡ l.fn.out.items ++ filter_map (instance_name l.names.names l.home) (below l.instance)
