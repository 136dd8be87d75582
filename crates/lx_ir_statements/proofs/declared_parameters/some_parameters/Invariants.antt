use Rattle.std.proofs.Common.{◌≤◌, length}
use Rattle.lx_ir_terms.specs.Reading.{items_at}
use Rattle.lx_ir_statements.specs.Imports.{import_parameter_at}
use Rattle.lx_ir_terms.proofs.Loop.{Going}
use Rattle.lx_ir_statements.proofs.declared_parameters.some_parameters.Given as goal

abbrev pub invariant-loop-reader : goal.invariant-loop-reader
invariant-loop-reader l = record { so_far : Going import_parameter_at l.params l.reader (items_at import_parameter_at l.fn.reader); shrinks : length l.reader ≤ length l.fn.reader }

abbrev pub decreases-loop-reader : goal.decreases-loop-reader
decreases-loop-reader l = length l.reader
