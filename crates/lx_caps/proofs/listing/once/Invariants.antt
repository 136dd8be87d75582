use Rattle.std.proofs.Common.{◌≡◌, ◌++◌, None, drop}
use Rattle.lx_caps.specs.Once.{rising}
use Rattle.lx_caps.proofs.listing.once.Given as goal

abbrev pub invariant-loop-atom : goal.invariant-loop-atom
invariant-loop-atom l = l.atoms.items ++ rising l.last (drop l.atom-index l.sorted) ≡ rising None l.sorted
