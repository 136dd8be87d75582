use Rattle.std.proofs.Common.{◌≡◌, take, map}
use Rattle.lx_serve.specs.Texts.{slot_text}
use Rattle.lx_serve.proofs.texts.slot_texts.Given as goal

abbrev pub invariant-loop-slot : goal.invariant-loop-slot
invariant-loop-slot l = l.texts ≡ map (slot_text l.i) (take l.slot-index l.slots)
