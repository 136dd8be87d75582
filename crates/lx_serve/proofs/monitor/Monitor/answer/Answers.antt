use Rattle.std.proofs.lemmas.Result.{err_from_is_err_and}
use Rattle.lx_serve.proofs.Answered.{stopped}
use Rattle.lx_serve.proofs.monitor.Monitor.answer.Goals as goal

pub returns-in-Err-Ended-clause-gives : goal.returns-in-Err-Ended-clause-gives
returns-in-Err-Ended-clause-gives g c = λ s k.
    let p = c.args.program.now in
    stopped g.C.CapStore.stands p c.attempt.new.self c.stop.new.self s c.args.thread c.args.request.now c.in-Err-Ended.outcome c.stop.result c.in-Err-Ended.field-0 c.in-Err-Ended.field-0-is
    (c.in-Err-Ended.ensures.tries s (c.make_room.ensures.stays p s k)) (c.stop.ensures.state p s) c.stop.ensures.reply

pub returns-in_err-make_room-clause-memory : goal.returns-in_err-make_room-clause-memory
returns-in_err-make_room-clause-memory g c =
    let p = err_from_is_err_and c.from_residual.result c.from_residual.ensures.1 in
    rw p.1 (λ s k. c.make_room.ensures.stays c.args.program.now s k)
