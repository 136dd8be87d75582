use Rattle.std.proofs.Common.{◌≡◌, ◌++◌, drop}
use Rattle.lx_link.specs.Calls.{argument_words}
use Rattle.lx_link.proofs.arguments.argument_words.Given as goal

abbrev pub invariant-loop-place : goal.invariant-loop-place
invariant-loop-place l =
    l.words ++ argument_words l.names (drop l.place l.parameters) (drop l.place l.arguments) ≡ argument_words l.names l.parameters l.arguments
