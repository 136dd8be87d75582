use Rattle.std.proofs.Common.{◌≡◌, ◌+◌, drop}
use Rattle.lx_interp.specs.Runner.{events_of}
use Rattle.lx_opening.proofs.events.thread_events.Given as goal

abbrev pub invariant-loop-call : goal.invariant-loop-call
invariant-loop-call l = l.count + events_of (drop l.call-index l.calls) ≡ events_of l.calls
