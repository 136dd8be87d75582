use Rattle.std.proofs.Common.{◌≡◌, drop}
use Rattle.lx_propagate.specs.Decide.{first_conflict}
use Rattle.lx_propagate.specs.Told.{told_sum}
use Rattle.lx_propagate.proofs.decide.check_functions.Given as goal

abbrev pub invariant-loop-k : goal.invariant-loop-k
invariant-loop-k g l = first_conflict l.i (told_sum l.types) 0 l.functions ≡ first_conflict l.i (told_sum l.types) l.k (drop l.k l.functions)
