use Rattle.std.proofs.Common.{◌≡◌, ◌≤◌, ℕ, List, length, drop}
use Rattle.std.specs.List.{position_from}
use Rattle.lx_image_marks.specs.Named.{at_name, imports_as}
use Rattle.lx_image_marks.proofs.imports.places_of.Given as goal

abbrev pub invariant-loop-left : goal.invariant-loop-left
invariant-loop-left l = record {
  within : l.left ≤ length l.functions;
  so_far : (name : List ℕ) → at_name l.places.entries name ≡ position_from (imports_as name) l.left (drop l.left l.functions);
}

abbrev pub decreases-loop-left : goal.decreases-loop-left
decreases-loop-left l = l.left
