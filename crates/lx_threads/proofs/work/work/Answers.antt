use Rattle.std.proofs.Common.{ℕ, refl, sym, subst}
use Rattle.lx_caplock.specs.Seats.{view_of, opened_with}
use Rattle.lx_threads.specs.declared.worker.Worker.{Worker}
use Rattle.lx_threads.specs.Working.{Opens}
use Rattle.lx_threads.proofs.Turning.{works_on, same_trans, may_ask, worked_none, worked_more, comes_now, stopped_asking}
use Rattle.lx_threads.proofs.work.work.Goals as goal

pub loop-init : goal.loop-init
loop-init g c = record {
  of = c.requires.of;
  same = record { opened_part = refl; seats = refl; number = refl; ended = refl; out = refl };
  worked = worked_none g.T.Part.stands g.N.Asker.stands (g.N.Asker.machine c.args.code.now) c.args.code.now c.args.worker;
}

pub ask-requires-clause-fits : goal.ask-requires-clause-fits
ask-requires-clause-fits g c =
    let code = c.args.code.now in
    let t : ℕ = c.args.worker.thread in
    let i = c.loop.invariant in
    let now : Worker g.row.T.Denot g.row.N.Denot = record { thread = t; seat = c.loop.seat; runner = c.loop.runner } in
    let y = comes_now g.T.Part.stands g.N.Asker.stands (g.N.Asker.machine code) code c.args.worker now i.worked c.requires.may.state c.requires.may.runner in
    let work = works_on c.done.result _ (c.done.ensures code t y.0 y.1) c.if-done.false in
    let asks = c.in-Ok.ensures.asks t y.0 c.requires.may.thread y.1 work in
    may_ask g.T.Part.program g.T.Part.stands g.T.Part.takes (opened_with c.loop.seat) (g.N.Asker.program code) t c.in-Some-request.request.now
    (subst (λ o. Opens g.T.Part.program o (g.N.Asker.program code)) (sym i.same.opened_part) c.requires.may.opened)
    (c.requires.may.served (g.N.Asker.program code) t c.in-Some-request.request.now (c.in-Some-request.ensures.fits code t y.0 asks))

pub loop-preserved : goal.loop-preserved
loop-preserved g c =
    let code = c.args.code.now in
    let t : ℕ = c.args.worker.thread in
    let i = c.loop.invariant in
    let now : Worker g.row.T.Denot g.row.N.Denot = record { thread = t; seat = c.loop.seat; runner = c.loop.runner } in
    let next : Worker g.row.T.Denot g.row.N.Denot = record { thread = t; seat = c.ask.new.seat; runner = c.absorb.new.self } in
    record {
      of = c.ask.ensures.of;
      same = same_trans (view_of c.args.worker.seat) (view_of c.loop.seat) (view_of c.ask.new.seat) i.same c.ask.ensures.same;
      worked = worked_more g.T.Part.stands g.N.Asker.stands (g.N.Asker.machine code) code g.T.Part.program g.N.Asker.program g.N.Asker.asks c.args.worker now next c.local.new.self c.in-Some-request.request.now c.in-Ok-ask.reply
          i.worked c.in-Ok-ask.ensures.answer i.same.opened_part c.requires.may.opened
          (λ x st.
          let work = works_on c.done.result _ (c.done.ensures code t x st) c.if-done.false in
          let asks = c.in-Ok.ensures.asks t x c.requires.may.thread st work in
          (work, c.in-Some-request.ensures.asked code t x asks, asks))
          (λ x s asks is. c.absorb.ensures t x s asks is);
    }

pub returns-in_default-ask-clause-worked : goal.returns-in_default-ask-clause-worked
returns-in_default-ask-clause-worked g c =
    let code = c.args.code.now in
    let t : ℕ = c.args.worker.thread in
    let i = c.loop.invariant in
    let now : Worker g.row.T.Denot g.row.N.Denot = record { thread = t; seat = c.loop.seat; runner = c.loop.runner } in
    let next : Worker g.row.T.Denot g.row.N.Denot = record { thread = t; seat = c.ask.new.seat; runner = c.local.new.self } in
    stopped_asking g.T.Part.program g.T.Part.stands g.T.Part.lacks g.N.Asker.stands g.N.Asker.lacks (g.N.Asker.machine code) code c.args.worker now next c.in-Some-request.request.now
    i.worked c.in_default-ask.ensures.answer i.same.opened_part (λ x st. c.local.ensures.stands t x st)
    (λ x st.
    let work = works_on c.done.result _ (c.done.ensures code t x st) c.if-done.false in
    c.in-Some-request.ensures.asked code t x (c.in-Ok.ensures.asks t x c.requires.may.thread st work))
