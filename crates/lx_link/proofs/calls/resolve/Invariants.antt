use Rattle.std.proofs.Common.{◌≡◌, map, take}
use Rattle.lx_link.specs.Calls.{resolved}
use Rattle.lx_link.proofs.calls.resolve.Given as goal

abbrev pub invariant-loop-calls : goal.invariant-loop-calls
invariant-loop-calls l = l.list ≡ map (λ calls. map (resolved l.names) calls) (take l.calls-index l.threads)
