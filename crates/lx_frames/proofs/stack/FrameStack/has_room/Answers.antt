use Rattle.std.proofs.Common.{ap, ◌∙◌}
use Rattle.std.specs.Prelude.{nat_lt}
use Rattle.lx_frames.proofs.Counting.{room_above}
use Rattle.lx_frames.proofs.stack.FrameStack.has_room.Goals as goal

pub returns : goal.returns
returns c = λ p. ap (λ n. nat_lt n 255) c.running.ensures ∙ room_above p c.args.self.now.top c.args.self.now.below c.requires
