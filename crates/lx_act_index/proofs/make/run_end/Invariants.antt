-- The act gave all atoms so far.
use Rattle.std.proofs.Common.{◌≡◌, ℕ, ◌-◌, ◌<◌, ◌≤◌, Some}
use Rattle.lx_caps.specs.History.{History}
use Rattle.lx_certificates.specs.Givers.{count_of, given}
use Rattle.lx_act_index.specs.Standing.{StandsForActs}
use Rattle.lx_act_index.proofs.make.run_end.Given as goal

abbrev pub invariant-loop-at : goal.invariant-loop-at
invariant-loop-at l = record {
  more : l.from < l.at;
  within : l.at ≤ count_of l.sought.cap;
  given : (h : History) → StandsForActs l.index h → (k : ℕ) → l.from ≤ k → k < l.at → given h l.sought k ≡ Some l.act;
}

abbrev pub decreases-loop-at : goal.decreases-loop-at
decreases-loop-at l = count_of l.sought.cap - l.at
