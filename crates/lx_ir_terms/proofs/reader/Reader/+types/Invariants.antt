use Rattle.std.proofs.Common.{◌*◌, ◌+◌, ◌≤◌, length}
use Rattle.lx_ir_terms.specs.Reading.{items_at}
use Rattle.lx_ir_terms.specs.Types.{type_at}
use Rattle.lx_ir_terms.proofs.Loop.{Going}
use Rattle.lx_ir_terms.proofs.reader.Reader.+types.Given as goal

abbrev pub decreases-ty_within : goal.decreases-ty_within
decreases-ty_within l = 8 * l.depth

abbrev pub decreases-array : goal.decreases-array
decreases-array l = 8 * l.depth + 1

abbrev pub decreases-some_fields : goal.decreases-some_fields
decreases-some_fields l = 8 * l.depth + 2

abbrev pub decreases-fields : goal.decreases-fields
decreases-fields l = 8 * l.depth + 3

abbrev pub decreases-structure : goal.decreases-structure
decreases-structure l = 8 * l.depth + 4

abbrev pub decreases-packed : goal.decreases-packed
decreases-packed l = 8 * l.depth + 4

abbrev pub decreases-nested : goal.decreases-nested
decreases-nested l = 8 * l.depth + 5

abbrev pub invariant-some_fields-loop-alloc : goal.invariant-some_fields-loop-alloc
invariant-some_fields-loop-alloc l = record { so_far : Going (type_at l.context l.depth) l.fields l.self (items_at (type_at l.context l.depth) l.fn.self); shrinks : length l.self ≤ length l.fn.self }

abbrev pub decreases-some_fields-loop-alloc : goal.decreases-some_fields-loop-alloc
decreases-some_fields-loop-alloc l = length l.self
