use Rattle.std.proofs.Common.{inl, inr, ap}
use Rattle.lx_interp.specs.Runner.{thread_of}
use Rattle.lx_interp.proofs.Lines.{idles, is_idle}
use Rattle.lx_interp.proofs.Takings.{taken_as}
use Rattle.lx_interp.proofs.runner.Runner.go_on.Goals as goal

pub returns-in-Enter-clause-steps : goal.returns-in-Enter-clause-steps
returns-in-Enter-clause-steps c =
    let p = c.args.code.now in
    let old = c.args.self.now in
    taken_as p old c.stop.new.self _ _
    (idles p (thread_of p old) old.stack.top old.stack.below c.args.line c.requires.line
    (elim c.in-Enter.is [ inl a ↦ ap is_idle a | inr b ↦ elim b [ inl d ↦ ap is_idle d | inr e ↦ ap is_idle e ] ])) (c.stop.ensures.stops p)
