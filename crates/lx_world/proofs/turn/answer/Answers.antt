-- What is promised for the part's own program holds for each that it stands for.
use Rattle.lx_words.proofs.Tests.{never}
use Rattle.lx_world.proofs.Turns.{served_for, stays_for, undecided_for}
use Rattle.lx_world.proofs.turn.answer.Goals as goal

pub returns-in-Ok-clause-served : goal.returns-in-Ok-clause-served
returns-in-Ok-clause-served g c =
    served_for g.C.CapStore.stands c.args.shared.now c.args.thread c.args.request.now c.serve.new.self c.in-Ok.reply c.in-Ok.ensures.served

pub returns-in-Err-clause-memory : goal.returns-in-Err-clause-memory
returns-in-Err-clause-memory g c =
    stays_for g.C.CapStore.stands c.args.shared.now c.args.thread c.args.request.now c.serve.new.self c.in-Err.ensures.memory

pub returns-in-Err-clause-undecided : goal.returns-in-Err-clause-undecided
returns-in-Err-clause-undecided g c = λ journal store.
    undecided_for g.C.CapStore.stands c.args.shared.now c.args.thread c.args.request.now (c.in-Err.ensures.undecided journal store)

pub returns-in-Err-clause-no_memory : goal.returns-in-Err-clause-no_memory
returns-in-Err-clause-no_memory g c = λ journal store. never _ (λ plain. c.in-Err.ensures.no_memory plain journal store)
