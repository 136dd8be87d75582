use Rattle.std.specs.Prelude.{All}
use Rattle.lx_simulation.specs.Accepted.{IsAcceptedBy}
use Rattle.lx_opened_tests.proofs.images.push_images.Given as goal

abbrev pub invariant-loop-image : goal.invariant-loop-image
invariant-loop-image l = All (IsAcceptedBy l.program.interface) l.images.items
