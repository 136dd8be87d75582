use Rattle.std.proofs.Common.{◌≡◌, drop}
use Rattle.lx_same_texts.specs.Same.{same_lists, same_case}
use Rattle.lx_same_texts.proofs.operands.are_same_cases.Given as goal

abbrev pub invariant-loop-i : goal.invariant-loop-i
invariant-loop-i l = same_lists same_case l.a l.b ≡ same_lists same_case (drop l.i l.a) (drop l.i l.b)
