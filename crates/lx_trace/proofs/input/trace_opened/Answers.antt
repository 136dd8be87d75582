use Rattle.lx_words.proofs.Options.{if_ok}
use Rattle.lx_trace.proofs.input.trace_opened.Goals as goal

pub trace_of-told-requires : goal.trace_of-told-requires
trace_of-told-requires g c =
    let given = c.requires in
    (given.0, given.1, c.in_ok-run.ensures given.0 given.1 given.2, given.3)

pub returns : goal.returns
returns g c = if_ok c.trace_of-told.result (λ told tells. λ p script o. tells p script (c.in_ok-run.ensures p script o)) c.trace_of-told.ensures
