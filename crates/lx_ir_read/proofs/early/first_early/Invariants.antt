use Rattle.std.proofs.Common.{◌≡◌, length}
use Rattle.lx_ir_read.specs.Reading.{first_early}
use Rattle.lx_ir_read.proofs.early.first_early.Given as goal

abbrev pub invariant-loop-behind : goal.invariant-loop-behind
invariant-loop-behind l = first_early l.form l.context l.stop l.rest ≡ first_early l.form l.context l.stop l.toks

abbrev pub decreases-loop-behind : goal.decreases-loop-behind
decreases-loop-behind l = length l.rest
