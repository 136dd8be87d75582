use Rattle.std.proofs.Common.{◌≡◌, ◌+◌, ◌≤◌, length}
use Rattle.lx_words.specs.Cuts.{Reaches}
use Rattle.lx_words.proofs.lexer.scan.Given as goal

abbrev pub invariant-loop-rest : goal.invariant-loop-rest
invariant-loop-rest l = record { so_far : Reaches l.rule l.text l.tokens l.at l.line l.rest; place : l.at + length l.rest ≡ length l.text; lines : l.line ≤ l.at + 1 }

abbrev pub decreases-loop-rest : goal.decreases-loop-rest
decreases-loop-rest l = length l.rest
