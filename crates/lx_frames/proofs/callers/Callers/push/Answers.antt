use Rattle.std.proofs.Common.{ap, ◌∙◌, arith}
use Rattle.lx_frames.specs.Frames.{running_in}
use Rattle.lx_frames.proofs.Counting.{counted_with, counted_within}
use Rattle.lx_frames.proofs.callers.Callers.push.Goals as goal

pub overflow_add-self : goal.overflow_add-self
overflow_add-self c =
    let all = c.self.inside.frames in
    let room = ap (λ s. s.room) c.self.view_is in
    omega (arith, c.self.invariant, counted_within all.items, all.ok.0, room, c.requires, c.count_of.ensures.one)

pub invariant_of-self : goal.invariant_of-self
invariant_of-self c =
    let counted = ap running_in c.append.ensures.items ∙ counted_with c.self.inside.frames.items c.args.frame in
    omega (arith, c.self.invariant, counted, c.count_of.ensures.count)
