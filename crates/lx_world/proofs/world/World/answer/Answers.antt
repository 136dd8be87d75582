use Rattle.std.proofs.Common.{refl, sym, ap, ◌∙◌}
use Rattle.std.proofs.lemmas.Result.{err_from_is_err_and}
use Rattle.lx_serve.specs.Room.{journal_room, store_room}
use Rattle.lx_world.proofs.Counted.{ends_behind, room_behind, room_still}
use Rattle.lx_world.specs.Wants.{may_want}
use Rattle.lx_world.proofs.Exact.{event_exact, reply_told}
use Rattle.lx_world.proofs.Threads.{acts, at_thread, busy, cannot_act, event_stands, fault_stands}
use Rattle.lx_world.proofs.Wanted.{asked_after, end_room, event_room}
use Rattle.lx_world.proofs.world.World.answer.Goals as goal

pub returns-then-is_idle-clause-no_work : goal.returns-then-is_idle-clause-no_work
returns-then-is_idle-clause-no_work g c = λ p w st.
    let off = cannot_act g.C.CapStore.stands c.args.self.now p w c.args.thread c.is_idle.result c.is_idle.ensures.idle c.if-is_idle.true st in
    (λ _. off, λ _. refl)

pub turn-requires-clause-work : goal.turn-requires-clause-work
turn-requires-clause-work g c = busy c.args.self.now.runners.list.items c.args.thread c.at.result.now (sym c.is_idle.ensures.idle ∙ c.if-is_idle.false) c.at.ensures.value

pub returns-clause-event : goal.returns-clause-event
returns-clause-event g c = λ p w st.
    event_stands g.C.CapStore.stands c.args.self.now _ p w c.args.thread c.at.result.now c.turn.new.runner c.in_ok-reply.reply refl refl c.at.ensures.value
    (c.is_idle.ensures.there c.if-is_idle.false)
    (busy c.args.self.now.runners.list.items c.args.thread c.at.result.now (sym c.is_idle.ensures.idle ∙ c.if-is_idle.false) c.at.ensures.value)
    c.in_ok-reply.ensures.turns st

pub returns-clause-exact : goal.returns-clause-exact
returns-clause-exact g c = λ p w st.
    event_exact g.C.CapStore.stands c.args.self.now _ p w c.args.thread c.at.result.now c.turn.new.runner c.in_ok-reply.reply refl refl c.at.ensures.value
    (c.is_idle.ensures.there c.if-is_idle.false)
    (busy c.args.self.now.runners.list.items c.args.thread c.at.result.now (sym c.is_idle.ensures.idle ∙ c.if-is_idle.false) c.at.ensures.value)
    c.in_ok-reply.ensures.turns st

pub returns-clause-reply : goal.returns-clause-reply
returns-clause-reply g c = λ p w x st found.
    reply_told g.C.CapStore.stands c.args.self.now p w c.args.thread c.at.result.now c.in_ok-reply.reply x c.at.ensures.value (c.is_idle.ensures.there c.if-is_idle.false)
    (λ s y part r. (c.in_ok-reply.ensures.turns s y part r).reply) st found

pub returns-clause-no_work : goal.returns-clause-no_work
returns-clause-no_work g c = λ p w st.
    (λ e. absurd (cc), λ off. absurd (acts g.C.CapStore.stands c.args.self.now p w c.args.thread c.is_idle.result c.is_idle.ensures.idle c.if-is_idle.false st off))

pub returns-in_err-reply-clause-fault : goal.returns-in_err-reply-clause-fault
returns-in_err-reply-clause-fault g c =
    let q = err_from_is_err_and c.from_residual.result c.from_residual.ensures.1 in
    rw q.1
    (λ p w st.
    fault_stands g.C.CapStore.stands c.args.self.now _ p w c.args.thread c.at.result.now c.turn.new.runner refl refl c.at.ensures.value
    (c.is_idle.ensures.there c.if-is_idle.false) c.in_err-reply.ensures.memory st)

pub returns-in_err-reply-clause-no_work : goal.returns-in_err-reply-clause-no_work
returns-in_err-reply-clause-no_work g c =
    let q = err_from_is_err_and c.from_residual.result c.from_residual.ensures.1 in
    rw (q.1, q.2)
    (λ p w st. (λ e. absurd (cc), λ off. absurd (acts g.C.CapStore.stands c.args.self.now p w c.args.thread c.is_idle.result c.is_idle.ensures.idle c.if-is_idle.false st off)))

pub returns-clause-room : goal.returns-clause-room
returns-clause-room g c = λ room.
    room_behind c.args.self.now.runners.list.items _ c.args.thread c.at.result.now c.turn.new.runner (journal_room c.args.self.now.shared) (journal_room c.turn.new.shared) refl c.at.ensures.value
    (c.is_idle.ensures.there c.if-is_idle.false) c.in_ok-reply.ensures.fewer c.in_ok-reply.ensures.room room

pub returns-in_err-reply-clause-room : goal.returns-in_err-reply-clause-room
returns-in_err-reply-clause-room g c = λ room.
    room_still c.args.self.now.runners.list.items _ c.args.thread c.at.result.now c.turn.new.runner (journal_room c.args.self.now.shared) (journal_room c.turn.new.shared) refl c.at.ensures.value
    (c.is_idle.ensures.there c.if-is_idle.false) c.in_err-reply.ensures.no_more c.in_err-reply.ensures.room_stays room

pub returns-clause-ends : goal.returns-clause-ends
returns-clause-ends g c = λ p w st room.
    let is = c.at.ensures.value in
    let there = c.is_idle.ensures.there c.if-is_idle.false in
    ends_behind c.args.self.now.runners.list.items _ c.args.thread c.at.result.now c.turn.new.runner (store_room g.C.CapStore.spare c.args.self.now.shared)
    (store_room g.C.CapStore.spare c.turn.new.shared) refl is there
    (at_thread g.C.CapStore.stands c.args.self.now p w c.args.thread c.at.result.now _ is there c.turn.ensures.ends st) room

pub returns-in_err-reply-clause-ends : goal.returns-in_err-reply-clause-ends
returns-in_err-reply-clause-ends g c = λ p w st room.
    let is = c.at.ensures.value in
    let there = c.is_idle.ensures.there c.if-is_idle.false in
    ends_behind c.args.self.now.runners.list.items _ c.args.thread c.at.result.now c.turn.new.runner (store_room g.C.CapStore.spare c.args.self.now.shared)
    (store_room g.C.CapStore.spare c.turn.new.shared) refl is there
    (at_thread g.C.CapStore.stands c.args.self.now p w c.args.thread c.at.result.now _ is there c.turn.ensures.ends st) room

pub returns-in_err-reply-clause-no_memory : goal.returns-in_err-reply-clause-no_memory
returns-in_err-reply-clause-no_memory g c = λ wants room ends.
    let rs = c.args.self.now.runners.list.items in
    let is = c.at.ensures.value in
    let there = c.is_idle.ensures.there c.if-is_idle.false in
    let work = busy rs c.args.thread c.at.result.now (sym c.is_idle.ensures.idle ∙ c.if-is_idle.false) is in
    ap may_want (asked_after rs c.args.thread c.turn.new.runner there)
    ∙ c.in_err-reply.ensures.no_memory (event_room rs c.args.thread c.at.result.now (journal_room c.args.self.now.shared) is there work room)
    (end_room rs c.args.thread c.at.result.now (store_room g.C.CapStore.spare c.args.self.now.shared) is there work ends)
