use Rattle.std.proofs.Common.{◌≡◌, ◌++◌, drop}
use Rattle.lx_propagate.specs.Decide.{marked_in}
use Rattle.lx_propagate.specs.Told.{told_sum}
use Rattle.lx_propagate.proofs.decide.marked_in.Given as goal

abbrev pub invariant-loop-k : goal.invariant-loop-k
invariant-loop-k l = marked_in (told_sum l.types) 0 l.functions ≡ l.list.items ++ marked_in (told_sum l.types) l.k (drop l.k l.functions)
