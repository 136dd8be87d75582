use Rattle.std.proofs.Common.{sym}
use Rattle.lx_opening.proofs.Opened.{constant_given, variable_given, own_size}
use Rattle.lx_opening.proofs.grants.grant_global.Goals as goal

pub returns-then-variable : goal.returns-then-variable
returns-then-variable g c = λ h kept.
    constant_given g.C.CapStore.stands c.strip.new.self c.args.code.now c.args.home c.args.global.now c.in-Some.variable.now c.global_size.result h
    (sym c.in-Some.ensures) c.if-variable.true (own_size c.args.code.now c.args.home c.args.global.now c.in-Some.variable.now c.global_size.result c.requires.home c.global_size.ensures)
    (c.strip.ensures.appends _ (c.grant.ensures.appends h (c.reserve.ensures.stays h kept)))

pub returns-else-variable : goal.returns-else-variable
returns-else-variable g c = λ h kept.
    variable_given g.C.CapStore.stands c.grant.new.self c.args.code.now c.args.home c.args.global.now c.in-Some.variable.now c.global_size.result h
    (sym c.in-Some.ensures) c.if-variable.false (own_size c.args.code.now c.args.home c.args.global.now c.in-Some.variable.now c.global_size.result c.requires.home c.global_size.ensures)
    (c.grant.ensures.appends h (c.reserve.ensures.stays h kept))
