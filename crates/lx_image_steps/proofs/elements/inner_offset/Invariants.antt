use Rattle.std.proofs.Common.{drop}
use Rattle.lx_model.specs.Effect.{indices_of}
use Rattle.lx_image_steps.specs.Parts.{IsOnTheWay}
use Rattle.lx_image_steps.specs.Standing.{run_of}
use Rattle.lx_image_steps.proofs.elements.inner_offset.Given as goal

abbrev pub invariant-loop-index : goal.invariant-loop-index
invariant-loop-index l =
    IsOnTheWay l.text.types l.ty (indices_of l.code.program (run_of l.code l.run) l.indices) l.offset l.inner (indices_of l.code.program (run_of l.code l.run) (drop l.index-index l.indices))
