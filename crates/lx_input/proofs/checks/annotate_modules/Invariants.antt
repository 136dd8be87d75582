use Rattle.std.proofs.Common.{◌≡◌, map, take}
use Rattle.lx_propagate.specs.Slots.{annotated_of}
use Rattle.lx_input.specs.Checks.{PropagateTurn}
use Rattle.lx_input.proofs.Each.{HasPassed}
use Rattle.lx_input.proofs.checks.annotate_modules.Given as goal

abbrev pub invariant-loop-verified : goal.invariant-loop-verified
invariant-loop-verified l = (l.list ≡ map (annotated_of l.interface) (take l.verified-index l.modules)) × HasPassed (PropagateTurn l.interface) l.names l.modules l.verified-index
