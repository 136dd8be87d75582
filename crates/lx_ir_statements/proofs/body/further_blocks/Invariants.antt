use Rattle.std.proofs.Common.{◌≤◌, length}
use Rattle.lx_ir_statements.proofs.Onward.{Onward}
use Rattle.lx_ir_statements.specs.Blocks.{body_goes_on, body_step, further_blocks_at}
use Rattle.lx_ir_statements.proofs.body.further_blocks.Given as goal

abbrev pub invariant-loop-alloc : goal.invariant-loop-alloc
invariant-loop-alloc l =
    record {
      so_far : Onward body_goes_on (body_step l.fn.context l.fn.form l.fn.places) (l.blocks, l.locals) l.reader (further_blocks_at l.fn.context l.fn.form l.fn.places (l.fn.blocks, l.fn.locals) l.fn.reader);
      shrinks : length l.reader ≤ length l.fn.reader;
    }

abbrev pub decreases-loop-alloc : goal.decreases-loop-alloc
decreases-loop-alloc l = length l.reader
