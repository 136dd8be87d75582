use Rattle.std.proofs.Common.{◌≡◌, ◌++◌, drop}
use Rattle.lx_instrument.specs.Made.{numbers_from}
use Rattle.lx_instrument.proofs.numbers.push_numbers.Given as goal

abbrev pub invariant-loop-place : goal.invariant-loop-place
invariant-loop-place l = l.numbers ++ numbers_from l.next l.place (drop l.place l.functions) ≡ l.initial.numbers ++ numbers_from l.first 0 l.functions
