use Rattle.std.proofs.Common.{◌≡◌, ◌≤◌, ℕ, List, length, drop, bytes_eq}
use Rattle.std.specs.List.{position_from}
use Rattle.lx_annot.specs.declared.interface.Field.{Field}
use Rattle.lx_slot_sums.specs.Classes.{at_text}
use Rattle.lx_slot_sums.proofs.typed.name_numbers.Given as goal

abbrev pub invariant-loop-left : goal.invariant-loop-left
invariant-loop-left l = record {
  within : l.left ≤ length l.fields;
  so_far : (name : List ℕ) → at_text l.numbers.entries name ≡ position_from (λ (f : Field). bytes_eq f.name name) l.left (drop l.left l.fields);
}

abbrev pub decreases-loop-left : goal.decreases-loop-left
decreases-loop-left l = l.left
