use Rattle.std.proofs.Common.{◌≡◌, length}
use Rattle.lx_ir_read.specs.First.{no_progress, first_at}
use Rattle.lx_ir_read.proofs.first.statements.Given as goal

abbrev pub invariant-loop-fuel : goal.invariant-loop-fuel
invariant-loop-fuel l = first_at l.context l.form l.places l.fuel l.progress l.reader ≡ first_at l.context l.form l.places (length l.toks) no_progress l.toks

abbrev pub decreases-loop-fuel : goal.decreases-loop-fuel
decreases-loop-fuel l = l.fuel
