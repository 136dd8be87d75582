use Rattle.std.proofs.lemmas.Result.{err_from_is_err_and}
use Rattle.lx_link.proofs.Passes.{script_stops}
use Rattle.lx_link.proofs.linking.link_sources.Goals as goal

pub returns-in_err-calls-clause-fault : goal.returns-in_err-calls-clause-fault
returns-in_err-calls-clause-fault g c =
    let p = err_from_is_err_and c.from_residual-in_err-calls.result c.from_residual-in_err-calls.ensures.1 in
    rw (p.1, p.2)
    (script_stops (g.M.Means.unnamed c.args.means.now) (g.M.Means.lacks c.args.means.now) c.args.case.now c.args.sources c.in_ok-program.program c.in_err-calls.field-0.0 c.in_ok-check_sources.ensures c.in_ok-program.ensures.ok
    c.in_err-calls.ensures.fault)
