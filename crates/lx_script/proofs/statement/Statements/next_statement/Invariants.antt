use Rattle.std.proofs.Common.{◌≡◌, ◌+◌, ◌<◌, ◌^◌, length}
use Rattle.lx_script.specs.Lines.{statements_from}
use Rattle.lx_script.proofs.statement.Statements.next_statement.Given as goal

abbrev pub invariant-loop-self : goal.invariant-loop-self
invariant-loop-self l = record {
  left : statements_from l.self-inside.row l.self-inside.text.now ≡ l.fn.self;
  room : l.self-inside.row + length l.self-inside.text.now < 2 ^ 32;
}

abbrev pub decreases-loop-self : goal.decreases-loop-self
decreases-loop-self l = length l.self-inside.text.now
