use Rattle.lx_serve.proofs.Targeted.{slot_enters}
use Rattle.lx_serve.proofs.monitor.Monitor.enter_slot.Goals as goal

pub returns-clause-tries : goal.returns-clause-tries
returns-clause-tries g c = λ s t k.
    slot_enters g.C.CapStore.stands c.args.program.now c.run_in.new.self s t c.args.who c.args.slot c.args.ty c.args.args.now c.in_ok-function.function c.in_ok-principal.principal c.is_module_function.result
    (c.in_ok-function.ensures s k) c.is_module_function.ensures (c.in_ok-principal.ensures.runs s k)
