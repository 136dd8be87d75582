use Rattle.std.proofs.lemmas.Result.{err_from_is_err_and}
use Rattle.std.proofs.Common.{ap, not, sym}
use Rattle.lx_interp.specs.Runner.{calls_left}
use Rattle.lx_serve.specs.Room.{store_room}
use Rattle.lx_images.specs.Image.{image_next}
use Rattle.lx_world.specs.Wants.{may_want}
use Rattle.lx_world.proofs.Wanted.{wants_asked}
use Rattle.lx_world.proofs.Turns.{turned, turned_ends, has_work_of}
use Rattle.lx_world.proofs.turn.turn.Goals as goal

pub returns-in_err-local-clause-memory : goal.returns-in_err-local-clause-memory
returns-in_err-local-clause-memory g c =
    let p = err_from_is_err_and c.from_residual.result c.from_residual.ensures.1 in
    rw p.1 (λ s x st r. record { shared = st; runner = record { runs = c.local.ensures.stands c.args.thread x r.runs; stack = r.stack } })

pub returns-in_err-reply-in-Some-clause-memory : goal.returns-in_err-reply-in-Some-clause-memory
returns-in_err-reply-in-Some-clause-memory g c =
    let p = err_from_is_err_and c.from_residual-in_err-reply-in-Some.result c.from_residual-in_err-reply-in-Some.ensures.1 in
    rw p.1
    (λ s x st r. record { shared = c.in_err-reply-in-Some.ensures.memory c.args.code.now.program s st; runner = record { runs = c.local.ensures.stands c.args.thread x r.runs; stack = r.stack } })

pub returns-clause-turns : goal.returns-clause-turns
returns-clause-turns g c = λ s x st r.
    let m = c.args.code.now in
    let t = c.args.thread in
    let asks = c.in_ok-local.ensures.asks t x r.runs (has_work_of m t c.args.runner.now x r c.requires.work) in
    turned g.C.CapStore.stands c.image_request_laws.ensures m t s x c.args.shared.now c.answer.new.shared c.local.new.self c.absorb.new.self c.in-Some.request.now c.in_ok-reply-in-Some.reply
    st c.requires.thread r.stack asks (c.in-Some.ensures.asked m t (image_next m x) asks)
    (c.in_ok-reply-in-Some.ensures.served m.program s st) (c.absorb.ensures.stands t (image_next m x) asks) (c.absorb.ensures.at t (image_next m x) asks)

pub returns-clause-ends : goal.returns-clause-ends
returns-clause-ends g c = λ s x st r.
    let m = c.args.code.now in
    let t = c.args.thread in
    let asks = c.in_ok-local.ensures.asks t x r.runs (has_work_of m t c.args.runner.now x r c.requires.work) in
    turned_ends g.C.CapStore.stands c.image_request_laws.ensures m t s x c.args.shared.now c.answer.new.shared c.local.new.self c.absorb.new.self c.in-Some.request.now c.in_ok-reply-in-Some.reply
    st c.requires.thread r.stack asks (c.in-Some.ensures.asked m t (image_next m x) asks)
    (c.in_ok-reply-in-Some.ensures.served m.program s st) (c.absorb.ensures.stands t (image_next m x) asks) (c.absorb.ensures.at t (image_next m x) asks)
    (calls_left c.args.runner.now) (store_room g.C.CapStore.spare c.args.shared.now) (store_room g.C.CapStore.spare c.answer.new.shared) c.requires.work c.local.ensures.calls c.in_ok-reply-in-Some.ensures.leaves

pub returns-in_err-local-clause-no_memory : goal.returns-in_err-local-clause-no_memory
returns-in_err-local-clause-no_memory g c =
    let p = err_from_is_err_and c.from_residual.result c.from_residual.ensures.1 in
    rw p.1 (λ journal store. ap may_want c.in_err-local.ensures.asks_nothing)

pub returns-in_err-reply-in-Some-clause-no_memory : goal.returns-in_err-reply-in-Some-clause-no_memory
returns-in_err-reply-in-Some-clause-no_memory g c =
    let p = err_from_is_err_and c.from_residual-in_err-reply-in-Some.result c.from_residual-in_err-reply-in-Some.ensures.1 in
    rw p.1
    (λ journal store. wants_asked _ c.in-Some.request.now (sym c.in-Some.ensures.value) (ap not (c.in_err-reply-in-Some.ensures.no_memory journal store)))
