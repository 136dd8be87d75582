use Rattle.std.proofs.Common.{◌≡◌, drop, map}
use Rattle.lx_slot_types.specs.Sites.{behind_first, index_number, last_field}
use Rattle.lx_propagate.proofs.parts.last_field.Given as goal

abbrev pub invariant-loop-k : goal.invariant-loop-k
invariant-loop-k l = last_field l.m.types l.inner (map index_number (drop l.k l.indices)) ≡ last_field l.m.types l.t (behind_first (map index_number l.indices))
