use Rattle.std.proofs.Common.{◌≡◌, ◌++◌, take}
use Rattle.std.specs.List.{flat_map}
use Rattle.lx_world.specs.Atoms.{caps_of}
use Rattle.lx_world.proofs.owned.put_atoms.Given as goal

abbrev pub invariant-loop-atom : goal.invariant-loop-atom
invariant-loop-atom l = l.out.items ≡ l.fn.out.items ++ flat_map (caps_of l.types) (take l.atom-index l.atoms)
