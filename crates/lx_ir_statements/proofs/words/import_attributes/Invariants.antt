use Rattle.std.proofs.Common.{◌≤◌, length}
use Rattle.lx_ir_operands.specs.Steps.{one_attribute_at}
use Rattle.lx_ir_statements.specs.Words.{has_import_attribute, import_attributes_at}
use Rattle.lx_ir_operands.proofs.Stepping.{Stepping}
use Rattle.lx_ir_statements.proofs.words.import_attributes.Given as goal

abbrev pub invariant-loop-reader : goal.invariant-loop-reader
invariant-loop-reader l = record { so_far : Stepping has_import_attribute one_attribute_at l.reader (import_attributes_at l.fn.reader); shrinks : length l.reader ≤ length l.fn.reader }

abbrev pub decreases-loop-reader : goal.decreases-loop-reader
decreases-loop-reader l = length l.reader
