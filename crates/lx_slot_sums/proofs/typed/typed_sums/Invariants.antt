use Rattle.std.proofs.Common.{◌≡◌, ℕ, Some, List, take}
use Rattle.lx_slot_sums.specs.Fields.{number_among, sum_at, typed_by}
use Rattle.lx_slot_sums.specs.Sums.{sum_by}
use Rattle.lx_slot_sums.proofs.typed.typed_sums.Given as goal

abbrev pub invariant-loop-field : goal.invariant-loop-field
invariant-loop-field l = (name : List ℕ) → (n k : ℕ) → number_among l.i.fields name ≡ Some n → sum_at l.table.entries n k ≡ sum_by l.i (typed_by (take l.field-index l.fields) name k)
