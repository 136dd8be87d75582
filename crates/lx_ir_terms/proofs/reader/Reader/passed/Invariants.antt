use Rattle.std.proofs.Common.{◌≤◌, length}
use Rattle.lx_ir_terms.specs.Words.{passed_at}
use Rattle.lx_ir_terms.proofs.Passing.{Passing}
use Rattle.lx_ir_terms.proofs.reader.Reader.passed.Given as goal

abbrev pub invariant-loop-self : goal.invariant-loop-self
invariant-loop-self l = record { so_far : Passing l.linkage l.self (passed_at l.linkage l.fn.self); shrinks : length l.self ≤ length l.fn.self }

abbrev pub decreases-loop-self : goal.decreases-loop-self
decreases-loop-self l = length l.self
