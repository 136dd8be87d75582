use Rattle.lx_words.proofs.Options.{if_ok}
use Rattle.lx_runs.proofs.why.why_opened.Goals as goal

pub why_of-why-requires : goal.why_of-why-requires
why_of-why-requires g c =
    let given = c.requires in
    (given.0, given.1, c.in_ok-run.ensures given.0 given.1 given.2)

pub returns : goal.returns
returns g c = if_ok c.why_of-why.result (λ why tells. λ p script o. tells p script (c.in_ok-run.ensures p script o)) c.why_of-why.ensures
