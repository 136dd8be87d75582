use Rattle.std.proofs.Common.{◌≡◌, take}
use Rattle.lx_world.specs.Worlds.{script_events}
use Rattle.lx_opening.proofs.events.script_events.Given as goal

abbrev pub invariant-loop-calls : goal.invariant-loop-calls
invariant-loop-calls l = l.count ≡ script_events (take l.calls-index l.script)
