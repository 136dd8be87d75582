use Rattle.std.proofs.Common.{◌≡◌, ◌≤◌, ℕ, length, drop}
use Rattle.std.specs.List.{position_from}
use Rattle.lx_model.specs.Program.{Home, is_entry}
use Rattle.lx_name_tables.specs.Keys.{at_key}
use Rattle.lx_name_tables.proofs.keys.filled_numbers.Given as goal

abbrev pub invariant-loop-left : goal.invariant-loop-left
invariant-loop-left l = record {
  within : l.left ≤ length l.functions;
  so_far : (home : Home) → (f : ℕ) → at_key l.numbers.entries home f ≡ position_from (is_entry home f) l.left (drop l.left l.functions);
}

abbrev pub decreases-loop-left : goal.decreases-loop-left
decreases-loop-left l = l.left
