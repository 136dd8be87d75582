use Rattle.std.proofs.Common.{◌≡◌, ◌-◌, ◌≤◌, ℕ, length}
use Rattle.lx_writer_sets.specs.Bits.{is_marked}
use Rattle.lx_writer_sets.proofs.bitmap.add_words.Given as goal

abbrev pub invariant-loop-words : goal.invariant-loop-words
invariant-loop-words l = record {
  stays : (n : ℕ) → is_marked l.words.items n ≡ is_marked l.fn.words.items n;
  few : length l.fn.words.items ≤ 768 → length l.words.items ≤ 768;
  grows : length l.fn.words.items ≤ length l.words.items;
}

abbrev pub decreases-loop-words : goal.decreases-loop-words
decreases-loop-words l = 768 - length l.words.items
