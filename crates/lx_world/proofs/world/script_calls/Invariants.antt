use Rattle.std.proofs.Common.{◌≡◌, take}
use Rattle.lx_world.specs.Worlds.{script_calls}
use Rattle.lx_world.proofs.world.script_calls.Given as goal

abbrev pub invariant-loop-calls : goal.invariant-loop-calls
invariant-loop-calls l = l.count ≡ script_calls (take l.calls-index l.script)
