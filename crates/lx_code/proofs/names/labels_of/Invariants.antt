use Rattle.std.proofs.Common.{◌≡◌, ◌≤◌, ℕ, List, length, drop}
use Rattle.std.specs.List.{position_from}
use Rattle.lx_code.specs.Firsts.{at_name, is_named}
use Rattle.lx_code.proofs.names.labels_of.Given as goal

abbrev pub invariant-loop-left : goal.invariant-loop-left
invariant-loop-left l = record {
  within : l.left ≤ length l.blocks;
  so_far : (name : List ℕ) → at_name l.labels.entries name ≡ position_from (is_named name) l.left (drop l.left l.blocks);
}

abbrev pub decreases-loop-left : goal.decreases-loop-left
decreases-loop-left l = l.left
