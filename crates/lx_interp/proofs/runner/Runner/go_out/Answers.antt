use Rattle.std.proofs.Common.{List, map, sym, ap, ◌∙◌}
use Rattle.lx_caps.specs.declared.Principal.{Principal}
use Rattle.lx_images.specs.Image.{after_leaving, with_shadow}
use Rattle.lx_frames.specs.Frames.{frame_of, value_on}
use Rattle.lx_interp.specs.Runner.{is_ret, thread_of}
use Rattle.lx_interp.proofs.Lines.{leaves_by, leaves_lost}
use Rattle.lx_interp.proofs.Takings.{goes_to, taken_as}
use Rattle.lx_interp.proofs.runner.Runner.go_out.Goals as goal

pub returns-then-is_ret-clause-steps : goal.returns-then-is_ret-clause-steps
returns-then-is_ret-clause-steps c =
    let p = c.args.code.now in
    let old = c.args.self.now in
    let h = c.leave_wrapper.ensures in
    let ret = sym (c.is_ret.ensures ∙ ap is_ret c.in_ok-behind.ensures.line) ∙ c.if-is_ret.true in
    let popped = ap (λ (qs : List Principal). after_leaving (value_on old.stack.top) (map (frame_of p) old.stack.below.frames) (with_shadow qs (thread_of p old))) c.pop.ensures.rest in
    goes_to p old c.leave_wrapper.new.self _ _ (leaves_by p (thread_of p old) old.stack.top old.stack.below c.requires.line ret) h.number h.calls h.ended h.marks (h.request ∙ c.requires.request) (h.state ∙ popped)

pub returns-else-is_ret-clause-steps : goal.returns-else-is_ret-clause-steps
returns-else-is_ret-clause-steps c =
    let p = c.args.code.now in
    let old = c.args.self.now in
    let ret = sym (c.is_ret.ensures ∙ ap is_ret c.in_ok-behind.ensures.line) ∙ c.if-is_ret.false in
    taken_as p old c.stop.new.self _ _ (leaves_lost p (thread_of p old) old.stack.top old.stack.below c.requires.line ret) (c.stop.ensures.stops p)
