use Rattle.lx_interp.specs.Runner.{IsUnderWay, steps_before}
use Rattle.lx_interp.proofs.runner.Runner.go.Given as goal

abbrev pub invariant-loop-self : goal.invariant-loop-self
invariant-loop-self l = IsUnderWay l.code l.initial.self l.self

abbrev pub decreases-loop-self : goal.decreases-loop-self
decreases-loop-self l = steps_before l.code l.self l.self.request
