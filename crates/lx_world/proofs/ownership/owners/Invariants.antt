use Rattle.std.proofs.Common.{◌≡◌}
use Rattle.std.specs.List.{flat_map}
use Rattle.lx_caps.specs.History.{History}
use Rattle.lx_model.specs.State.{module_principals}
use Rattle.lx_slot_types.specs.Gets.{below}
use Rattle.lx_world.specs.OwnerAccounts.{owned_in}
use Rattle.lx_world.proofs.ownership.owners.Given as goal

abbrev pub invariant-loop-home : goal.invariant-loop-home
invariant-loop-home g l =
    (h : History) → g.C.CapStore.stands l.caps h
    → l.out.items ≡ flat_map (owned_in l.types h) (flat_map (module_principals l.names.names) (below l.home))
