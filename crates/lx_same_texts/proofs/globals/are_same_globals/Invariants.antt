use Rattle.std.proofs.Common.{◌≡◌, drop}
use Rattle.lx_same_texts.specs.Same.{same_lists, same_global}
use Rattle.lx_same_texts.proofs.globals.are_same_globals.Given as goal

abbrev pub invariant-loop-i : goal.invariant-loop-i
invariant-loop-i l = same_lists same_global l.a l.b ≡ same_lists same_global (drop l.i l.a) (drop l.i l.b)
