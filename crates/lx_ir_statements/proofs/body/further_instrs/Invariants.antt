use Rattle.std.proofs.Common.{◌≤◌, length}
use Rattle.lx_ir_statements.proofs.Onward.{Onward}
use Rattle.lx_ir_statements.specs.Blocks.{run_goes_on, run_step, further_instrs_at}
use Rattle.lx_ir_statements.proofs.body.further_instrs.Given as goal

abbrev pub invariant-loop-alloc : goal.invariant-loop-alloc
invariant-loop-alloc l =
    record {
      so_far : Onward (λ h us. run_goes_on h.0 us) (run_step l.fn.context l.fn.form l.fn.places) (l.run, l.locals) l.reader (further_instrs_at l.fn.context l.fn.form l.fn.places (l.fn.run, l.fn.locals) l.fn.reader);
      shrinks : length l.reader ≤ length l.fn.reader;
    }

abbrev pub decreases-loop-alloc : goal.decreases-loop-alloc
decreases-loop-alloc l = length l.reader
