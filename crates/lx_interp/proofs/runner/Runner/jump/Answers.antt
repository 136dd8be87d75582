use Rattle.std.proofs.Common.{refl}
use Rattle.lx_interp.specs.Runner.{marks_in, poorer, thread_of}
use Rattle.lx_interp.proofs.Takings.{jump_lost, retaken}
use Rattle.lx_interp.proofs.runner.Runner.jump.Goals as goal

pub returns-else-branch-clause-steps : goal.returns-else-branch-clause-steps
returns-else-branch-clause-steps c =
    let p = c.args.code.now in
    let old = c.args.self.now in
    retaken p old _ c.trap.new.self _ _ refl refl refl
    (jump_lost p (marks_in old.marks) (poorer (thread_of p old)) old.stack.top old.stack.below _ _ c.args.block c.in-Some.is c.requires.top c.in_ok-arrive.ensures.arrives c.if-branch.false)
    (c.trap.ensures.stops p)
