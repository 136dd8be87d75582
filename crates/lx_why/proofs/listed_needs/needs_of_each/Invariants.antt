-- The needs of the principals so far.
use Rattle.std.proofs.Common.{◌≡◌, map, take}
use Rattle.lx_run_laws.specs.Needs.{to_hold}
use Rattle.lx_why.specs.ListedNeeds.{of_modules}
use Rattle.lx_why.proofs.listed_needs.needs_of_each.Given as goal

abbrev pub invariant-loop-who : goal.invariant-loop-who
invariant-loop-who l = l.needs ≡ of_modules (map (λ w. to_hold w l.cap) (take l.who-index l.principals))
