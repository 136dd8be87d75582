use Rattle.lx_words.proofs.Options.{if_ok}
use Rattle.lx_runs.proofs.Ran.{opened, opened_code, run_told}
use Rattle.lx_runs.proofs.run.run_world.Goals as goal

-- the world that is reported stands for the run's
pub report_of-told-requires : goal.report_of-told-requires
report_of-told-requires g c =
    let given = c.requires in
    let o = given.2 in
    let stands = g.C.CapStore.stands in
    let code = opened_code stands given.0 given.1 c.args.world o in
    let came = c.in-Ok.ensures.runs.runs code (opened stands given.0 given.1 c.args.world o) o.stands_for in (code, came.0, came.1.stands_for, o.formed, given.3)

pub returns-in-Ok : goal.returns-in-Ok
returns-in-Ok g c =
    if_ok c.report_of-told.result
    (λ t said. λ p script o.
    run_told g.C.CapStore.stands p script c.args.world o c.simulation_laws.ensures c.run_laws.ensures c.linked_laws.ensures c.in-Ok.done t c.in-Ok.ensures.runs said)
    c.report_of-told.ensures
