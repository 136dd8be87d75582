use Rattle.std.proofs.Common.{◌≡◌, take, map}
use Rattle.lx_annot.specs.Canonical.{canonical}
use Rattle.lx_slot_sums.proofs.classes.slot_texts.Given as goal

abbrev pub invariant-loop-slot : goal.invariant-loop-slot
invariant-loop-slot l = l.texts ≡ map (λ s. canonical l.i s.annotation) (take l.slot-index l.slots)
