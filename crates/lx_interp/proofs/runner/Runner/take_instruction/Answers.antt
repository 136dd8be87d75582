use Rattle.std.proofs.Common.{◌≡◌, Some, ap, ◌∙◌}
use Rattle.std.proofs.lemmas.Result.{err_from_is_err_and}
use Rattle.lx_image_steps.specs.declared.next.Step.TheVariants as step
use Rattle.lx_frames.specs.Frames.{frames_of}
use Rattle.lx_interp.specs.Runner.{marks_in, next_in, poorer, thread_of}
use Rattle.lx_interp.proofs.Lacking.{does_lacks}
use Rattle.lx_interp.proofs.Takings.{taken_as}
use Rattle.lx_interp.proofs.runner.Runner.take_instruction.Goals as goal

pub returns-in-None-clause-steps : goal.returns-in-None-clause-steps
returns-in-None-clause-steps c =
    let p = c.args.code.now in
    let old = c.args.self.now in
    let m = marks_in old.marks in
    let v = poorer (thread_of p old) in
    taken_as p old c.trap.new.self _ _ (c.in_ok-next.ensures.step m v ∙ ap (next_in p m v (frames_of p old.stack.top old.stack.below)) c.in-None.is) (c.trap.ensures.stops p)

pub returns-in_err-apply-in-Some-Does-clause-lacks : goal.returns-in_err-apply-in-Some-Does-clause-lacks
returns-in_err-apply-in-Some-Does-clause-lacks c =
    let e = err_from_is_err_and c.from_residual-in_err-apply-in-Some-Does.result c.from_residual-in_err-apply-in-Some-Does.ensures.1 in
    let is : c.in_ok-next.next ≡ Some (step.Does c.in-Some-Does.effect) = cc in
    rw e.1 (does_lacks c.args.code.now c.args.self.now.stack.top c.in_ok-next.next c.in-Some-Does.effect is c.in_ok-next.ensures.next c.in_err-apply-in-Some-Does.ensures.lacks)
