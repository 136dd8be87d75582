use Rattle.std.proofs.Common.{◌≡◌, ◌≤◌, ℕ, List, length, drop}
use Rattle.std.specs.List.{position_from}
use Rattle.lx_name_tables.specs.Places.{at_name}
use Rattle.lx_name_tables.proofs.places.filled.Given as goal

abbrev pub invariant-loop-left : goal.invariant-loop-left
invariant-loop-left g l = record {
  within : l.left ≤ length l.things;
  so_far : (name : List ℕ) → at_name l.places.entries name ≡ position_from (g.T.Named.answers name) l.left (drop l.left l.things);
}

abbrev pub decreases-loop-left : goal.decreases-loop-left
decreases-loop-left g l = l.left
