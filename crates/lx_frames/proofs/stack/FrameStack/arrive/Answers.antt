use Rattle.std.proofs.Common.{sym, ◌∙◌}
use Rattle.lx_frames.specs.Frames.{frames_of}
use Rattle.lx_frames.proofs.Arriving.{at_call, at_other, wraps_there}
use Rattle.lx_frames.proofs.stack.FrameStack.arrive.Goals as goal

pub go_into-requires : goal.go_into-requires
go_into-requires c = wraps_there c.args.code.now c.args.self.now.top c.args.self.now.below (sym c.if-is_at_call.true ∙ c.is_at_call.ensures)

pub returns-then-is_at_call-clause-frames : goal.returns-then-is_at_call-clause-frames
returns-then-is_at_call-clause-frames c = λ able.
    let p = c.args.code.now in
    let old = c.args.self.now in
    c.go_into.ensures.frames able ∙ sym (at_call p c.args.thread (frames_of p old.top old.below) (sym c.if-is_at_call.true ∙ c.is_at_call.ensures))

pub returns-else-is_at_call-clause-frames : goal.returns-else-is_at_call-clause-frames
returns-else-is_at_call-clause-frames c = λ able.
    let p = c.args.code.now in
    let old = c.args.self.now in
    sym (at_other p c.args.thread (frames_of p old.top old.below) (sym c.if-is_at_call.false ∙ c.is_at_call.ensures))
