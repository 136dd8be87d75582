use Rattle.std.proofs.Common.{take}
use Rattle.lx_runs.specs.Images.{AreMadeOf}
use Rattle.lx_runs.proofs.images.push_images.Given as goal

abbrev pub invariant-loop-number : goal.invariant-loop-number
invariant-loop-number l = AreMadeOf l.guarding l.program.interface (take l.number l.program.modules) l.images.items
