use Rattle.std.proofs.Common.{refl, ◌∙◌}
use Rattle.lx_interp.proofs.Calls.{ended_spends}
use Rattle.lx_interp.proofs.Replies.{end_at, reply_taken, stands_by}
use Rattle.lx_interp.proofs.runner.Runner.absorb.Goals as goal

pub returns-in-Some-clause-stands : goal.returns-in-Some-clause-stands
returns-in-Some-clause-stands c = λ t asking a m.
    let p = c.args.code.now in
    stands_by p t c.end.new.self _ (end_at p t c.args.self.now _ c.end.new.self asking c.args.reply.now c.in-Some.outcome a c.in-Some.ensures refl refl refl c.take-asked.ensures.after (c.end.ensures p))

pub returns-in-Some-clause-at : goal.returns-in-Some-clause-at
returns-in-Some-clause-at c = λ t asking a m.
    let p = c.args.code.now in
    end_at p t c.args.self.now _ c.end.new.self asking c.args.reply.now c.in-Some.outcome a c.in-Some.ensures refl refl refl c.take-asked.ensures.after (c.end.ensures p)

pub returns-in-Some-clause-idle : goal.returns-in-Some-clause-idle
returns-in-Some-clause-idle c = (c.end.ensures c.args.code.now).request ∙ c.take-asked.ensures.after

pub returns-in-Some-clause-events : goal.returns-in-Some-clause-events
returns-in-Some-clause-events c = λ t asking a m.
    let b = c.end.ensures c.args.code.now in
    ended_spends c.args.code.now c.args.self.now c.end.new.self c.in-Some.outcome a.work b.state (b.request ∙ c.take-asked.ensures.after)

pub returns-in-Some-clause-spends : goal.returns-in-Some-clause-spends
returns-in-Some-clause-spends c = λ work spent.
    let b = c.end.ensures c.args.code.now in
    ended_spends c.args.code.now c.args.self.now c.end.new.self c.in-Some.outcome work b.state (b.request ∙ c.take-asked.ensures.after)

pub returns-in-Some-asked-clause-stands : goal.returns-in-Some-asked-clause-stands
returns-in-Some-asked-clause-stands c = λ t asking a m.
    stands_by c.args.code.now t c.take_in.new.self _
    (reply_taken c.args.code.now t c.args.self.now _ c.take_in.new.self asking c.in-Some-asked.request c.args.reply.now a c.in-Some-asked.ensures.value c.in-None.ensures m
    refl refl refl refl c.take-asked.ensures.after c.take_in.ensures.becomes)

pub returns-in-Some-asked-clause-at : goal.returns-in-Some-asked-clause-at
returns-in-Some-asked-clause-at c = λ t asking a m.
    reply_taken c.args.code.now t c.args.self.now _ c.take_in.new.self asking c.in-Some-asked.request c.args.reply.now a c.in-Some-asked.ensures.value c.in-None.ensures m
    refl refl refl refl c.take-asked.ensures.after c.take_in.ensures.becomes
