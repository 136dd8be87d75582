-- Register steps leave a thread's functions on its stack, and lack memory only before the request.
use Rattle.std.proofs.lemmas.Result.{err_from_is_err_and}
use Rattle.lx_threads.proofs.runner.RunnerAskerThreadCode.local.Goals as goal

pub returns-in_err-local-clause-stands : goal.returns-in_err-local-clause-stands
returns-in_err-local-clause-stands c = λ t v st. record { runs = c.local.ensures.stands t v st.runs; stack = st.stack }

pub returns-clause-stands : goal.returns-clause-stands
returns-clause-stands c = λ t v st. record { runs = c.local.ensures.stands t v st.runs; stack = st.stack }

pub returns-clause-asks : goal.returns-clause-asks
returns-clause-asks c = λ t v few st work. record { few = few; asking = c.in_ok-local.ensures.asks t v st.runs work; stack = st.stack }

pub returns-in_err-local-clause-lacks : goal.returns-in_err-local-clause-lacks
returns-in_err-local-clause-lacks c =
    let p = err_from_is_err_and c.from_residual.result c.from_residual.ensures.1 in
    rw p.1 c.in_err-local.ensures.asks_nothing
