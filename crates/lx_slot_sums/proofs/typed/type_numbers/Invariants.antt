use Rattle.std.proofs.Common.{◌≡◌, take, map}
use Rattle.lx_slot_sums.specs.Fields.{number_among}
use Rattle.lx_slot_sums.proofs.typed.type_numbers.Given as goal

abbrev pub invariant-loop-named : goal.invariant-loop-named
invariant-loop-named l = l.types ≡ map (λ t. number_among l.i.fields t.name) (take l.named-index l.named-items)
