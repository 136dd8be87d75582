use Rattle.std.proofs.Common.{◌≡◌, take}
use Rattle.lx_cli.specs.Answer.{count_refused, count_returned, sum_returned}
use Rattle.lx_cli.proofs.generate.counts_of.Given as goal

abbrev pub invariant-loop-call : goal.invariant-loop-call
invariant-loop-call l =
    (l.counts.returned ≡ count_returned (take l.call-index l.calls)) × (l.counts.refused ≡ count_refused (take l.call-index l.calls)) × (l.counts.sum ≡ sum_returned (take l.call-index l.calls))
