use Rattle.std.proofs.Common.{◌≡◌, drop}
use Rattle.std.specs.Prelude.{bytes_eq}
use Rattle.lx_same_texts.specs.Same.{same_lists}
use Rattle.lx_same_texts.proofs.functions.are_same_names.Given as goal

abbrev pub invariant-loop-i : goal.invariant-loop-i
invariant-loop-i l = same_lists bytes_eq l.a l.b ≡ same_lists bytes_eq (drop l.i l.a) (drop l.i l.b)
