use Rattle.std.proofs.Common.{◌≡◌, ◌≤◌, ℕ, List, length, drop}
use Rattle.std.specs.List.{position_from}
use Rattle.lx_code.specs.Firsts.{at_name, is_from}
use Rattle.lx_code.proofs.names.edges_of.Given as goal

abbrev pub invariant-loop-left : goal.invariant-loop-left
invariant-loop-left l = record {
  within : l.left ≤ length l.edges;
  so_far : (name : List ℕ) → at_name l.labels.entries name ≡ position_from (is_from name) l.left (drop l.left l.edges);
}

abbrev pub decreases-loop-left : goal.decreases-loop-left
decreases-loop-left l = l.left
