-- The parts so far cut all atoms before this place.
use Rattle.std.proofs.Common.{◌-◌, ◌≤◌}
use Rattle.lx_caps.specs.History.{History}
use Rattle.lx_certificates.specs.Givers.{count_of, first_of, given}
use Rattle.lx_certificates.proofs.Making.{Cuts}
use Rattle.lx_act_index.specs.Standing.{StandsForActs}
use Rattle.lx_act_index.proofs.make.cut.Given as goal

abbrev pub invariant-loop-at : goal.invariant-loop-at
invariant-loop-at l = record {
  within : l.at ≤ count_of l.sought.cap;
  cuts : (h : History) → StandsForActs l.index h → Cuts (given h l.sought) (first_of l.sought.cap) (count_of l.sought.cap) l.parts l.at;
}

abbrev pub decreases-loop-at : goal.decreases-loop-at
decreases-loop-at l = count_of l.sought.cap - l.at
