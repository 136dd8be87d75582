use Rattle.std.proofs.Common.{sym, ◌∙◌}
use Rattle.lx_interp.specs.Runner.{marks_in, poorer, thread_of}
use Rattle.lx_interp.proofs.Takings.{taken_as, entry_full, entry_free}
use Rattle.lx_interp.proofs.runner.Runner.ask_entry.Goals as goal

pub returns-else-has_room-clause-steps : goal.returns-else-has_room-clause-steps
returns-else-has_room-clause-steps c =
    let p = c.args.code.now in
    let old = c.args.self.now in
    taken_as p old c.trap.new.self _ _
    (entry_full p (marks_in old.marks) (poorer (thread_of p old)) old.stack.top old.stack.below c.args.what c.requires.top (sym c.if-has_room.false ∙ c.has_room.ensures p)) (c.trap.ensures.stops p)

pub returns-in_ok-ask-clause-steps : goal.returns-in_ok-ask-clause-steps
returns-in_ok-ask-clause-steps c =
    let p = c.args.code.now in
    let old = c.args.self.now in
    taken_as p old c.ask.new.self _ _
    (entry_free p (marks_in old.marks) (poorer (thread_of p old)) old.stack.top old.stack.below c.args.what c.requires.top (sym c.if-has_room.true ∙ c.has_room.ensures p)) c.in_ok-ask.ensures.steps
