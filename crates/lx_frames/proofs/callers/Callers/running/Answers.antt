use Rattle.std.proofs.Common.{ap, sym, ◌∙◌}
use Rattle.lx_frames.specs.Frames.{running_in}
use Rattle.lx_frames.proofs.Counting.{counted_reverse}
use Rattle.lx_frames.proofs.callers.Callers.running.Goals as goal

pub returns : goal.returns
returns c = c.self.invariant ∙ sym (counted_reverse c.self.inside.frames.items) ∙ ap (λ s. running_in s.frames) c.self.view_is
