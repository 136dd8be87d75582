use Rattle.std.proofs.Common.{◌≡◌, ℕ, None}
use Rattle.lx_slot_sums.specs.Known.{known}
use Rattle.lx_slot_sums.proofs.known.nothing_known.Given as goal

abbrev pub invariant-loop : goal.invariant-loop
invariant-loop l = (n : ℕ) → known l.numbers.items n ≡ None
