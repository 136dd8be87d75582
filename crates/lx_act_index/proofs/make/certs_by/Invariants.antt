-- The certificates of the needs so far, all of them met.
use Rattle.std.proofs.Common.{drop}
use Rattle.lx_caps.specs.History.{History}
use Rattle.lx_certificates.proofs.Needing.{SoFar}
use Rattle.lx_act_index.specs.Standing.{StandsForActs}
use Rattle.lx_act_index.proofs.make.certs_by.Given as goal

abbrev pub invariant-loop-need : goal.invariant-loop-need
invariant-loop-need l = (h : History) → StandsForActs l.index h → SoFar h l.needs (drop l.need-index l.needs) l.certs
