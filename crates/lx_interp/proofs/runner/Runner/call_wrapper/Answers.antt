use Rattle.std.proofs.Common.{◌≡◌, true, false, sym, ap, ◌∙◌}
use Rattle.lx_image_code.specs.Wrappers.{wrapper_lines}
use Rattle.lx_interp.specs.Runner.{is_enter, poorer, thread_of}
use Rattle.lx_interp.proofs.Takings.{taken_as, wrapper_asks, wrapper_full, wrapper_lost}
use Rattle.lx_interp.proofs.runner.Runner.call_wrapper.Goals as goal

pub returns-then-not-has_room-clause-steps : goal.returns-then-not-has_room-clause-steps
returns-then-not-has_room-clause-steps c =
    let p = c.args.code.now in
    let old = c.args.self.now in
    let full : c.has_room.result ≡ false = c.if-not-has_room.true in
    taken_as p old c.trap.new.self _ _
    (wrapper_full p (poorer (thread_of p old)) old.stack.top old.stack.below c.args.function c.args.args (wrapper_lines p c.args.wrapper) c.requires.top (sym full ∙ c.has_room.ensures p)) (c.trap.ensures.stops p)

pub returns-then-not-is_enter-clause-steps : goal.returns-then-not-is_enter-clause-steps
returns-then-not-is_enter-clause-steps c =
    let p = c.args.code.now in
    let old = c.args.self.now in
    let free : c.has_room.result ≡ true = c.if-not-has_room.false in
    let other : c.is_enter.result ≡ false = c.if-not-is_enter.true in
    taken_as p old c.trap-then-not-is_enter.new.self _ _
    (wrapper_lost p (poorer (thread_of p old)) old.stack.top old.stack.below c.args.function c.args.args (wrapper_lines p c.args.wrapper) c.requires.top (sym free ∙ c.has_room.ensures p)
    (sym (c.is_enter.ensures ∙ ap is_enter c.line.ensures) ∙ other)) (c.trap-then-not-is_enter.ensures.stops p)

pub returns-clause-steps : goal.returns-clause-steps
returns-clause-steps c =
    let p = c.args.code.now in
    let old = c.args.self.now in
    let free : c.has_room.result ≡ true = c.if-not-has_room.false in
    let first : c.is_enter.result ≡ true = c.if-not-is_enter.false in
    taken_as p old c.call_entering.new.self _ _
    (wrapper_asks p (poorer (thread_of p old)) old.stack.top old.stack.below c.args.function c.args.args (wrapper_lines p c.args.wrapper) c.requires.top (sym free ∙ c.has_room.ensures p)
    (sym (c.is_enter.ensures ∙ ap is_enter c.line.ensures) ∙ first)) c.in_ok-call_entering.ensures.steps
