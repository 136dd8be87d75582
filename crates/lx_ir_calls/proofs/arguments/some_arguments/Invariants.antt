use Rattle.std.proofs.Common.{◌≤◌, length}
use Rattle.lx_ir_terms.specs.Reading.{items_at}
use Rattle.lx_ir_calls.specs.Arguments.{argument_at}
use Rattle.lx_ir_terms.proofs.Loop.{Going}
use Rattle.lx_ir_calls.proofs.arguments.some_arguments.Given as goal

abbrev pub invariant-loop-alloc : goal.invariant-loop-alloc
invariant-loop-alloc l = record { so_far : Going (argument_at l.fn.context) l.arguments l.reader (items_at (argument_at l.fn.context) l.fn.reader); shrinks : length l.reader ≤ length l.fn.reader }

abbrev pub decreases-loop-alloc : goal.decreases-loop-alloc
decreases-loop-alloc l = length l.reader
