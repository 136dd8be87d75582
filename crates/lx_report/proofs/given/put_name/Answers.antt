use Rattle.lx_report.proofs.given.put_name.Goals as goal

pub returns : goal.returns
returns c = λ m k. c.in_ok-insert.ensures.updates.0 (m, k)
