use Rattle.std.proofs.Common.{◌+◌, ◌<◌, ◌^◌, length}
use Rattle.lx_script.proofs.Reached.{Reached}
use Rattle.lx_script.proofs.schedule.entries_in.Given as goal

abbrev pub invariant-loop-word : goal.invariant-loop-word
invariant-loop-word l = record {
  so_far : Reached l.text l.entries l.words.rest.now l.words.line l.first;
  room : l.words.line + length l.words.rest.now < 2 ^ 32;
}

abbrev pub decreases-loop-word : goal.decreases-loop-word
decreases-loop-word l = length l.words.rest.now
