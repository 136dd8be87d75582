use Rattle.std.proofs.Common.{ap, ◌∙◌}
use Rattle.lx_interp.specs.Runner.{effect_on, marks_in, poorer, thread_of}
use Rattle.lx_interp.proofs.Takings.{taken_as, traps_on}
use Rattle.lx_interp.proofs.runner.Runner.apply.Goals as goal

pub returns-in-Traps-clause-steps : goal.returns-in-Traps-clause-steps
returns-in-Traps-clause-steps c =
    let p = c.args.code.now in
    let old = c.args.self.now in
    let v = poorer (thread_of p old) in
    taken_as p old c.trap.new.self _ _
    (ap (effect_on p (marks_in old.marks) v) c.in-Traps.is ∙ traps_on p (marks_in old.marks) v old.stack.top old.stack.below c.in-Traps.trap c.requires.top) (c.trap.ensures.stops p)
