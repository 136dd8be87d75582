use Rattle.std.proofs.Common.{◌≡◌, ◌++◌, map}
use Rattle.std.specs.List.{flat_map}
use Rattle.lx_caps.specs.declared.Principal.TheVariants.{Inst}
use Rattle.lx_caps.specs.History.{History}
use Rattle.lx_slot_types.specs.Gets.{below}
use Rattle.lx_world.specs.OwnerAccounts.{owned_in}
use Rattle.lx_world.proofs.ownership.put_instances.Given as goal

abbrev pub invariant-loop-instance : goal.invariant-loop-instance
invariant-loop-instance g l =
    (h : History) → g.C.CapStore.stands l.caps h
    → l.out.items ≡ l.fn.out.items ++ flat_map (owned_in l.types h) (map (Inst l.home) (below l.instance))
