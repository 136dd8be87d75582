use Rattle.std.proofs.Common.{◌≡◌, ◌≤◌, ℕ, List, length, drop}
use Rattle.std.specs.List.{position_from}
use Rattle.lx_image_marks.specs.Named.{at_name}
use Rattle.lx_image_check.specs.Expected.{defines}
use Rattle.lx_image_check.proofs.wrappers.defined_in.Given as goal

abbrev pub invariant-loop-left : goal.invariant-loop-left
invariant-loop-left l = record {
  within : l.left ≤ length l.functions;
  so_far : (name : List ℕ) → at_name l.places.entries name ≡ position_from (defines name) l.left (drop l.left l.functions);
}

abbrev pub decreases-loop-left : goal.decreases-loop-left
decreases-loop-left l = l.left
