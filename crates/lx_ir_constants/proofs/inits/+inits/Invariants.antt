use Rattle.std.proofs.Common.{◌≡◌, ◌*◌, ◌+◌, ◌≤◌, length, List, map}
use Rattle.lx_ir_terms.specs.Reading.{items_at}
use Rattle.lx_ir_terms.proofs.Loop.{Going}
use Rattle.lx_ir_constants.specs.declared.inits.Member.{Member}
use Rattle.lx_ir_constants.specs.Inits.{member_at, init_at}
use Rattle.lx_ir_constants.proofs.inits.+inits.Given as goal

abbrev pub decreases-init_within : goal.decreases-init_within
decreases-init_within l = 8 * l.depth

abbrev pub decreases-one_member : goal.decreases-one_member
decreases-one_member l = 8 * l.depth + 1

abbrev pub decreases-some_members : goal.decreases-some_members
decreases-some_members l = 8 * l.depth + 2

abbrev pub decreases-braced : goal.decreases-braced
decreases-braced l = 8 * l.depth + 3

abbrev pub decreases-bracketed : goal.decreases-bracketed
decreases-bracketed l = 8 * l.depth + 3

abbrev pub decreases-packed_group : goal.decreases-packed_group
decreases-packed_group l = 8 * l.depth + 4

abbrev pub decreases-nested_init : goal.decreases-nested_init
decreases-nested_init l = 8 * l.depth + 5

abbrev pub invariant-some_members-loop-alloc : goal.invariant-some_members-loop-alloc
invariant-some_members-loop-alloc l = record {
  members : List Member;
  types : l.types ≡ map (λ m. m.ty) members;
  inits : l.inits ≡ map (λ m. m.init) members;
  so_far : Going (member_at l.context (init_at l.context l.depth)) members l.reader (items_at (member_at l.context (init_at l.context l.depth)) l.fn.reader);
  shrinks : length l.reader ≤ length l.fn.reader;
}

abbrev pub decreases-some_members-loop-alloc : goal.decreases-some_members-loop-alloc
decreases-some_members-loop-alloc l = length l.reader
