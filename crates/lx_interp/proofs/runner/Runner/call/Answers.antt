use Rattle.std.proofs.Common.{◌≡◌, false, sym, ◌∙◌}
use Rattle.lx_interp.specs.Runner.{marks_in, poorer, thread_of}
use Rattle.lx_interp.proofs.Takings.{taken_as, call_full}
use Rattle.lx_interp.proofs.runner.Runner.call.Goals as goal

pub returns-then-not-has_room-clause-steps : goal.returns-then-not-has_room-clause-steps
returns-then-not-has_room-clause-steps c =
    let p = c.args.code.now in
    let old = c.args.self.now in
    let full : c.has_room.result ≡ false = c.if-not-has_room.true in
    taken_as p old c.trap.new.self _ _
    (call_full p (marks_in old.marks) (poorer (thread_of p old)) old.stack.top old.stack.below c.args.function c.args.args c.requires.top (sym full ∙ c.has_room.ensures p)) (c.trap.ensures.stops p)
