use Rattle.std.proofs.Common.{ap, ◌∙◌, arith}
use Rattle.lx_frames.specs.Frames.{running_in}
use Rattle.lx_frames.proofs.Counting.{counted_with}
use Rattle.lx_frames.proofs.callers.Callers.pop.Goals as goal

pub overflow_sub-self : goal.overflow_sub-self
overflow_sub-self c =
    let counted = ap running_in c.in-Some.ensures.items ∙ counted_with c.pop.new.self.items c.in-Some.frame in
    omega (arith, c.self.invariant, counted, c.count_of.ensures.count)

pub invariant_of-self : goal.invariant_of-self
invariant_of-self c =
    let counted = ap running_in c.in-Some.ensures.items ∙ counted_with c.pop.new.self.items c.in-Some.frame in
    omega (arith, c.self.invariant, counted, c.count_of.ensures.count)
