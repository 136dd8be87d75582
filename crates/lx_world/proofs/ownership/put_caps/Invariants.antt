use Rattle.std.proofs.Common.{◌≡◌, ◌++◌, map, take}
use Rattle.lx_world.specs.OwnerAccounts.{owned_as}
use Rattle.lx_world.proofs.ownership.put_caps.Given as goal

abbrev pub invariant-loop-cap : goal.invariant-loop-cap
invariant-loop-cap l = l.out.items ≡ l.fn.out.items ++ map (owned_as l.who) (take l.cap-index l.caps)
