use Rattle.std.proofs.Common.{◌≡◌, [], length}
use Rattle.lx_script.specs.Reading.{body_at}
use Rattle.lx_script.proofs.reader.body.Given as goal

abbrev pub invariant-loop-statement : goal.invariant-loop-statement
invariant-loop-statement l = body_at l.draft l.statements ≡ body_at (record { modules = []; threads = [] }) l.fn.statements

abbrev pub decreases-loop-statement : goal.decreases-loop-statement
decreases-loop-statement l = length l.statements
