use Rattle.std.proofs.Common.{◌≡◌, map}
use Rattle.lx_slot_types.specs.Gets.{below}
use Rattle.lx_model.specs.Account.{image_count}
use Rattle.lx_annotation_tables.proofs.images.image_counts.Given as goal

abbrev pub invariant-loop-number : goal.invariant-loop-number
invariant-loop-number l = l.images.items ≡ map (image_count l.program) (below l.number)
