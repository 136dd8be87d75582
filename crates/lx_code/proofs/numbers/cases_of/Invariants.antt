use Rattle.std.proofs.Common.{◌≡◌, ◌≤◌, ℕ, length, drop}
use Rattle.std.specs.List.{position_from}
use Rattle.lx_code.specs.Firsts.{at_number, is_case}
use Rattle.lx_code.proofs.numbers.cases_of.Given as goal

abbrev pub invariant-loop-left : goal.invariant-loop-left
invariant-loop-left g l = record {
  within : l.left ≤ length l.cases;
  so_far : (n : ℕ) → at_number l.numbers.entries n ≡ position_from (is_case (g.C.PlacedText.comes_to l.text) n) l.left (drop l.left l.cases);
}

abbrev pub decreases-loop-left : goal.decreases-loop-left
decreases-loop-left g l = l.left
