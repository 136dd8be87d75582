use Rattle.std.proofs.Common.{◌≡◌, ◌++◌, map, take}
use Rattle.lx_world.specs.Accounts.{call_outcome}
use Rattle.lx_world.proofs.outcomes.put_endings.Given as goal

abbrev pub invariant-loop-ending : goal.invariant-loop-ending
invariant-loop-ending l = l.out.items ≡ l.fn.out.items ++ map (call_outcome l.thread) (take l.ending-index l.endings)
