use Rattle.std.proofs.Common.{◌≡◌, ◌≤◌, ℕ, length, drop}
use Rattle.std.specs.Prelude.{find, option_map}
use Rattle.lx_ir_verify.specs.Edges.{at_number, is_from}
use Rattle.lx_ir_verify.proofs.phis.first_operands.Given as goal

abbrev pub invariant-loop-left : goal.invariant-loop-left
invariant-loop-left l = record {
  within : l.left ≤ length l.edges;
  so_far : (n : ℕ) → at_number l.firsts.entries n ≡ option_map (λ e. e.value) (find (is_from l.f n) (drop l.left l.edges));
}

abbrev pub decreases-loop-left : goal.decreases-loop-left
decreases-loop-left l = l.left
