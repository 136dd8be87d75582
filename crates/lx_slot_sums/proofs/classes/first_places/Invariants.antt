use Rattle.std.proofs.Common.{◌≡◌, ◌≤◌, ℕ, List, length, drop, bytes_eq}
use Rattle.std.specs.List.{position_from}
use Rattle.lx_slot_sums.specs.Classes.{at_text}
use Rattle.lx_slot_sums.proofs.classes.first_places.Given as goal

abbrev pub invariant-loop-left : goal.invariant-loop-left
invariant-loop-left l = record {
  within : l.left ≤ length l.texts;
  so_far : (bytes : List ℕ) → at_text l.places.entries bytes ≡ position_from (λ t. bytes_eq t bytes) l.left (drop l.left l.texts);
}

abbrev pub decreases-loop-left : goal.decreases-loop-left
decreases-loop-left l = l.left
