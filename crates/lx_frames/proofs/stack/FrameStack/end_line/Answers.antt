use Rattle.lx_frames.proofs.Entering.{ends_line}
use Rattle.lx_frames.proofs.stack.FrameStack.end_line.Goals as goal

pub returns-clause-frames : goal.returns-clause-frames
returns-clause-frames c = λ able.
    let a = c.pass_line.ensures in
    ends_line c.args.code.now c.args.thread c.args.self.now c.pass_line.new.self c.arrive.new.self able a.top a.below a.registers c.arrive.ensures.frames
