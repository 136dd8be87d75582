use Rattle.lx_frames.proofs.Entering.{wrapper_ready}
use Rattle.lx_frames.proofs.stack.FrameStack.push_wrapper.Goals as goal

pub returns-clause-ready : goal.returns-clause-ready
returns-clause-ready c = λ p way enter room.
    let b = c.push.ensures in
    wrapper_ready p c.args.self.now c.push.new.self c.args.function c.args.args c.args.wrapper way enter room b.top b.takes b.registers b.shadow
