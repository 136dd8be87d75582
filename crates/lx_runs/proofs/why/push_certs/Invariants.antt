use Rattle.std.proofs.Common.{◌≡◌, ◌++◌, map}
use Rattle.lx_why.specs.Certified.{certified}
use Rattle.lx_runs.proofs.why.push_certs.Given as goal

abbrev pub invariant-loop-cert : goal.invariant-loop-cert
invariant-loop-cert l = l.out.items ≡ l.fn.out.items ++ map (certified l.event l.thread) l.yielded
