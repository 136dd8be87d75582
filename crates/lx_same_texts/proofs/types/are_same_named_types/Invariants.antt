use Rattle.std.proofs.Common.{◌≡◌, drop}
use Rattle.lx_same_texts.specs.Same.{same_lists, same_named_type}
use Rattle.lx_same_texts.proofs.types.are_same_named_types.Given as goal

abbrev pub invariant-loop-i : goal.invariant-loop-i
invariant-loop-i l = same_lists same_named_type l.a l.b ≡ same_lists same_named_type (drop l.i l.a) (drop l.i l.b)
