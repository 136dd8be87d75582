use Rattle.std.proofs.Common.{◌≡◌, length}
use Rattle.lx_script.specs.Reading.{arguments_at, names_of}
use Rattle.lx_script.proofs.Loops.{with_front}
use Rattle.lx_script.proofs.reading.arguments.Given as goal

abbrev pub invariant-loop-arguments : goal.invariant-loop-arguments
invariant-loop-arguments l = with_front l.arguments (arguments_at (names_of l.modules) l.s) ≡ arguments_at (names_of l.modules) l.fn.s

abbrev pub decreases-loop-arguments : goal.decreases-loop-arguments
decreases-loop-arguments l = length l.s.words
