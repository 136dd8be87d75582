use Rattle.std.proofs.Common.{◌≡◌, drop}
use Rattle.lx_same_texts.specs.Same.{same_lists, same_parameter}
use Rattle.lx_same_texts.proofs.functions.are_same_parameters.Given as goal

abbrev pub invariant-loop-i : goal.invariant-loop-i
invariant-loop-i l = same_lists same_parameter l.a l.b ≡ same_lists same_parameter (drop l.i l.a) (drop l.i l.b)
