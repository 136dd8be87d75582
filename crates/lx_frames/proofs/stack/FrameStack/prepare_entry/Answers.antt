use Rattle.std.proofs.Common.{◌∙◌}
use Rattle.lx_frames.proofs.stack.FrameStack.prepare_entry.Goals as goal

pub returns-in_err-make_room-clause-rest : goal.returns-in_err-make_room-clause-rest
returns-in_err-make_room-clause-rest c = λ p.
    let a = c.prepare.ensures.rest p in
    record { frames = a.frames; shadow = c.make_room.ensures.stays ∙ a.shadow }

pub returns-clause-rest : goal.returns-clause-rest
returns-clause-rest c = λ p.
    let a = c.prepare.ensures.rest p in
    record { frames = a.frames; shadow = c.make_room.ensures.stays ∙ a.shadow }
