use Rattle.std.proofs.Common.{arith}
use Rattle.std.proofs.lemmas.Bool.Decides.{nat_tests}
use Rattle.lx_cap_lists.proofs.MoreRuns.{stands_apart}
use Rattle.lx_cap_lists.proofs.runs.put_run.Goals as goal

pub returns : goal.returns
returns c = λ p. stands_apart p _ _ c.args.last c.args.run (grind (arith, nat_tests, c.if-last-run.false)) c.in_ok-put_span.ensures
