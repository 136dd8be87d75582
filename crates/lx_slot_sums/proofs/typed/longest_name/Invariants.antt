use Rattle.std.proofs.Common.{ℕ, ◌<◌, ◌≤◌, length, get_or}
use Rattle.lx_annot.specs.declared.interface.Field.{Field}
use Rattle.lx_slot_sums.proofs.typed.longest_name.Given as goal

abbrev pub invariant-loop-field : goal.invariant-loop-field
invariant-loop-field l = (j : ℕ) → (d : Field) → j < l.field-index → length (get_or l.field-items j d).name ≤ l.longest
