-- The laws are lemmas.
use Rattle.lx_linked.proofs.AssignedRuns.{runs_alike}
use Rattle.lx_linked.proofs.Signatures.{linked_well}
use Rattle.lx_linked.proofs.Standing.{refill_fresh, refill_same}
use Rattle.lx_linked.proofs.assigned_laws.Goals as goal

pub returns : goal.returns
returns c = record {
  assigned = λ p w script schedule fits fill. runs_alike p (linked_well p w) script schedule fits fill;
  of_texts = λ p verified fits script schedule calls fill. runs_alike p (record { verified = verified; fits = fits }) script schedule calls fill;
  others = refill_fresh;
  parameters = λ params r fresh registers h. refill_same params fresh registers r h;
}
