use Rattle.std.proofs.Common.{◌≡◌, ◌+◌, ◌^◌, ◌<◌, ◌≤◌, ◌++◌, drop, length}
use Rattle.lx_words.specs.Text.{digits_to}
use Rattle.lx_words.proofs.text.write_hex.Given as goal

abbrev pub invariant-loop-rest : goal.invariant-loop-rest
invariant-loop-rest l = record {
  most : l.left ≤ 16;
  least : 1 ≤ l.left;
  size : length l.buffer ≡ 18;
  fits : l.rest < 16 ^ l.left;
  so_far : digits_to 16 (l.left + 16) l.rest ++ drop (l.left + 2) l.buffer ≡ digits_to 16 32 l.v;
}

abbrev pub decreases-loop-rest : goal.decreases-loop-rest
decreases-loop-rest l = l.rest
