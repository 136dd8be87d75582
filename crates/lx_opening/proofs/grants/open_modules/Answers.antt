use Rattle.lx_opening.proofs.Opened.{modules_more}
use Rattle.lx_opening.proofs.grants.open_modules.Goals as goal

pub loop-home-preserved : goal.loop-home-preserved
loop-home-preserved g c = λ h k.
    rw (modules_more c.args.code.now c.loop-home.home h) (c.in_ok-open_module.ensures _ (c.loop-home.invariant h k))
