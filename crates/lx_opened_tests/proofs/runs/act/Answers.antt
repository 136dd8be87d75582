use Rattle.lx_opened_tests.proofs.Worlds.{acted, stayed}
use Rattle.lx_opened_tests.proofs.runs.act.Goals as goal

pub returns-in-Ok : goal.returns-in-Ok
returns-in-Ok g c = acted g.C.CapStore.stands c.args.world.now c.event.new.self c.args.thread c.in-Ok.ensures.event

pub returns-in-Err : goal.returns-in-Err
returns-in-Err g c = stayed g.C.CapStore.stands c.args.world.now c.event.new.self c.in-Err.ensures.fault
