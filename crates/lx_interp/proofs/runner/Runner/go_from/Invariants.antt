use Rattle.std.proofs.Common.{◌≡◌, None}
use Rattle.lx_interp.specs.Places.{AsksFrom}
use Rattle.lx_interp.specs.Runner.{IsUnderWay, steps_before, thread_of}
use Rattle.lx_interp.proofs.runner.Runner.go_from.Given as goal

abbrev pub invariant-loop-at : goal.invariant-loop-at
invariant-loop-at l =
    IsUnderWay l.code l.initial.self l.self × (l.initial.self.marks ≡ None → AsksFrom l.code (thread_of l.code l.initial.self) l.self l.self.request l.at)

abbrev pub decreases-loop-at : goal.decreases-loop-at
decreases-loop-at l = steps_before l.code l.self l.self.request
