use Rattle.std.proofs.Common.{◌≡◌, map, take}
use Rattle.lx_link.specs.Calls.{resolved}
use Rattle.lx_link.proofs.calls.resolve_thread.Given as goal

abbrev pub invariant-loop-call : goal.invariant-loop-call
invariant-loop-call l = l.list ≡ map (resolved l.names) (take l.call-index l.calls)
