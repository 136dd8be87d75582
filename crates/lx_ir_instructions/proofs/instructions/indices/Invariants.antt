use Rattle.std.proofs.Common.{◌≤◌, length}
use Rattle.lx_ir_terms.specs.Reading.{behind}
use Rattle.lx_ir_operands.specs.Steps.{has_further, unbroken_at}
use Rattle.lx_ir_operands.specs.Operands.{typed_at}
use Rattle.lx_ir_operands.proofs.Collecting.{Collecting}
use Rattle.lx_ir_instructions.proofs.instructions.indices.Given as goal

abbrev pub invariant-loop-alloc : goal.invariant-loop-alloc
invariant-loop-alloc l = record { so_far : Collecting has_further (λ us. (typed_at l.fn.context) (behind us)) l.indices l.reader (unbroken_at (typed_at l.fn.context) l.fn.reader); shrinks : length l.reader ≤ length l.fn.reader }

abbrev pub decreases-loop-alloc : goal.decreases-loop-alloc
decreases-loop-alloc l = length l.reader
