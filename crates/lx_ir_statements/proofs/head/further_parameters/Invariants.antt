use Rattle.std.proofs.Common.{◌≤◌, length}
use Rattle.lx_ir_tokens.specs.declared.token.Mark.TheVariants.{Comma}
use Rattle.lx_ir_terms.specs.Reading.{has, is_mark, behind}
use Rattle.lx_ir_statements.specs.Parameters.{parameter_at, further_parameters_at}
use Rattle.lx_ir_statements.proofs.Onward.{Onward}
use Rattle.lx_ir_statements.proofs.head.further_parameters.Given as goal

abbrev pub invariant-loop-alloc : goal.invariant-loop-alloc
invariant-loop-alloc l =
    record {
      so_far : Onward (λ h us. has (is_mark Comma) us) (λ h us. parameter_at l.fn.context h (behind us)) l.head l.reader (further_parameters_at l.fn.context l.fn.head l.fn.reader);
      counts : l.head.numbered ≤ length l.head.params;
      shrinks : length l.reader ≤ length l.fn.reader;
    }

abbrev pub decreases-loop-alloc : goal.decreases-loop-alloc
decreases-loop-alloc l = length l.reader
