use Rattle.std.proofs.Common.{arith}
use Rattle.lx_frames.specs.Frames.{frames_of}
use Rattle.lx_interp.specs.Runner.{instruction_in, marks_in, thread_of}
use Rattle.lx_interp.proofs.Lines.{runs_marked}
use Rattle.lx_interp.proofs.Takings.{budget, paid_taken, taken_as}
use Rattle.lx_interp.proofs.runner.Runner.run.Goals as goal

pub returns-then-self-eq0-clause-steps : goal.returns-then-self-eq0-clause-steps
returns-then-self-eq0-clause-steps c =
    let p = c.args.code.now in
    let old = c.args.self.now in
    taken_as p old c.stop.new.self _ _ (runs_marked p old.marks (thread_of p old) old.stack.top old.stack.below c.requires.marks c.requires.top)
    (budget p old c.stop.new.self (λ w. instruction_in p (marks_in old.marks) w (frames_of p old.stack.top old.stack.below)) c.if-self-eq0.true (c.stop.ensures.stops p))

pub returns-clause-steps : goal.returns-clause-steps
returns-clause-steps c =
    let p = c.args.code.now in
    let old = c.args.self.now in
    taken_as p old c.take_instruction.new.self _ _ (runs_marked p old.marks (thread_of p old) old.stack.top old.stack.below c.requires.marks c.requires.top)
    (paid_taken p old c.take_instruction.new.self (λ w. instruction_in p (marks_in old.marks) w (frames_of p old.stack.top old.stack.below)) (omega (arith, c.if-self-eq0.false)) c.in_ok-take_instruction.ensures.steps)
