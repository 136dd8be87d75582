use Rattle.std.proofs.Common.{◌≡◌, length}
use Rattle.lx_input.specs.Checks.{VerifyTurn}
use Rattle.lx_input.proofs.Each.{HasPassed}
use Rattle.lx_input.proofs.checks.verify_modules.Given as goal

abbrev pub invariant-loop-read : goal.invariant-loop-read
invariant-loop-read l = (l.list.items ≡ l.yielded) × HasPassed VerifyTurn l.names l.fn.modules.items (length l.yielded)
