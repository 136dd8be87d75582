use Rattle.std.proofs.Common.{false}
use Rattle.lx_words.specs.Lexemes.{ends_block}
use Rattle.lx_words.proofs.Fronts.{GoesOn}
use Rattle.lx_words.proofs.front.block_len.Given as goal

abbrev pub invariant-loop-i : goal.invariant-loop-i
invariant-loop-i l = GoesOn (ends_block false) (ends_block l.starred) l.text l.i
