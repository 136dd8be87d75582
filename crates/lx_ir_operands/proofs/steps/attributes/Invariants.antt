use Rattle.std.proofs.Common.{◌≤◌, length}
use Rattle.lx_ir_operands.specs.Steps.{attributes_at, has_attribute, one_attribute_at}
use Rattle.lx_ir_operands.proofs.Stepping.{Stepping}
use Rattle.lx_ir_operands.proofs.steps.attributes.Given as goal

abbrev pub invariant-loop-reader : goal.invariant-loop-reader
invariant-loop-reader l = record { so_far : Stepping has_attribute one_attribute_at l.reader (attributes_at l.fn.reader); shrinks : length l.reader ≤ length l.fn.reader }

abbrev pub decreases-loop-reader : goal.decreases-loop-reader
decreases-loop-reader l = length l.reader
