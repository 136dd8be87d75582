use Rattle.std.proofs.Common.{◌≡◌, take, map}
use Rattle.lx_slot_sums.specs.Classes.{at_text, place_or_none}
use Rattle.lx_slot_sums.proofs.classes.all_classes.Given as goal

abbrev pub invariant-loop-text : goal.invariant-loop-text
invariant-loop-text l = l.classes ≡ map (λ t. place_or_none (at_text l.places.entries t)) (take l.text-index l.texts)
