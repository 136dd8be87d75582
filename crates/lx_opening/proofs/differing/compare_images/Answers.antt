use Rattle.lx_opening.proofs.Compared.{one_more}
use Rattle.lx_opening.proofs.differing.compare_images.Goals as goal

pub loop-place-preserved : goal.loop-place-preserved
loop-place-preserved c = one_more c.args.program.now c.args.images.now c.loop-place.place c.loop-place.invariant c.in_ok-compare_at.ensures.same
