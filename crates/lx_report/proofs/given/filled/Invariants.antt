use Rattle.std.proofs.Common.{◌≡◌, ◌≤◌, ℕ, length, drop}
use Rattle.std.specs.Prelude.{find, option_map}
use Rattle.lx_report.specs.Given.{at_key, is_of}
use Rattle.lx_report.proofs.given.filled.Given as goal

abbrev pub invariant-loop-left : goal.invariant-loop-left
invariant-loop-left l = record {
  within : l.left ≤ length l.names;
  so_far : (m : ℕ) → (k : ℕ) → at_key l.values.entries m k ≡ option_map (λ n. n.value) (find (is_of m k) (drop l.left l.names));
}

abbrev pub decreases-loop-left : goal.decreases-loop-left
decreases-loop-left l = l.left
