use Rattle.std.proofs.Common.{◌≤◌, length}
use Rattle.lx_ir_operands.specs.Operands.{case_at, has_case, some_cases_at}
use Rattle.lx_ir_operands.proofs.Collecting.{Collecting}
use Rattle.lx_ir_instructions.proofs.instructions.some_cases.Given as goal

abbrev pub invariant-loop-alloc : goal.invariant-loop-alloc
invariant-loop-alloc l = record { so_far : Collecting has_case (case_at l.fn.context l.fn.ty) l.cases l.reader (some_cases_at l.fn.context l.fn.ty l.fn.reader); shrinks : length l.reader ≤ length l.fn.reader }

abbrev pub decreases-loop-alloc : goal.decreases-loop-alloc
decreases-loop-alloc l = length l.reader
