use Rattle.std.proofs.Common.{Bool, refl, sym, ◌∙◌, subst}
use Rattle.lx_images.specs.Image.{after_entry}
use Rattle.lx_interp.specs.Runner.{Becomes, thread_of}
use Rattle.lx_interp.proofs.Replies.{enters_fitting, shown_becomes}
use Rattle.lx_interp.proofs.runner.Runner.enter_or_trap.Goals as goal

pub returns-then-fits-clause-becomes : goal.returns-then-fits-clause-becomes
returns-then-fits-clause-becomes c = λ enter room.
    let p = c.args.code.now in
    let old = c.args.self.now in
    let e = c.args.entry in
    enters_fitting p old.thread old _ _ c.args.way.now c.args.args e.function e.principal e.crosses (sym c.fits.ensures ∙ c.if-fits.true)
    (shown_becomes p old _ _ _ refl refl refl refl refl refl refl (c.enter.ensures enter room))

pub returns-else-fits-clause-becomes : goal.returns-else-fits-clause-becomes
returns-else-fits-clause-becomes c = λ enter room.
    let p = c.args.code.now in
    let old = c.args.self.now in
    let e = c.args.entry in
    subst (λ (x : Bool). Becomes p old c.trap_at_signature.new.self (after_entry p old.thread x c.args.way.now c.args.args e.function e.principal e.crosses (thread_of p old)))
    (sym c.if-fits.false ∙ c.fits.ensures) (c.trap_at_signature.ensures.becomes p)
