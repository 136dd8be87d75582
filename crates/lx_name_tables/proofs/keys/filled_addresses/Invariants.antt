use Rattle.std.proofs.Common.{◌≡◌, ◌≤◌, ℕ, length, drop}
use Rattle.std.specs.Prelude.{find, option_map}
use Rattle.lx_model.specs.Program.{Home}
use Rattle.lx_name_tables.specs.Keys.{at_key, is_global}
use Rattle.lx_name_tables.proofs.keys.filled_addresses.Given as goal

abbrev pub invariant-loop-left : goal.invariant-loop-left
invariant-loop-left l = record {
  within : l.left ≤ length l.globals;
  so_far : (home : Home) → (g : ℕ) → at_key l.addresses.entries home g ≡ option_map (λ x. x.at) (find (is_global home g) (drop l.left l.globals));
}

abbrev pub decreases-loop-left : goal.decreases-loop-left
decreases-loop-left l = l.left
