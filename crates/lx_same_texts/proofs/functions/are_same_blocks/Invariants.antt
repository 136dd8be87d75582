use Rattle.std.proofs.Common.{◌≡◌, drop}
use Rattle.lx_same_texts.specs.Same.{same_lists, same_block}
use Rattle.lx_same_texts.proofs.functions.are_same_blocks.Given as goal

abbrev pub invariant-loop-i : goal.invariant-loop-i
invariant-loop-i l = same_lists same_block l.a l.b ≡ same_lists same_block (drop l.i l.a) (drop l.i l.b)
