use Rattle.std.proofs.Common.{◌≤◌, length}
use Rattle.lx_ir_terms.specs.Reading.{behind}
use Rattle.lx_ir_operands.specs.Steps.{has_comma, metadata_at, one_metadata_at}
use Rattle.lx_ir_operands.proofs.Stepping.{Stepping}
use Rattle.lx_ir_operands.proofs.steps.metadata.Given as goal

abbrev pub invariant-loop-reader : goal.invariant-loop-reader
invariant-loop-reader l = record { so_far : Stepping has_comma (λ us. one_metadata_at (behind us)) l.reader (metadata_at l.fn.reader); shrinks : length l.reader ≤ length l.fn.reader }

abbrev pub decreases-loop-reader : goal.decreases-loop-reader
decreases-loop-reader l = length l.reader
