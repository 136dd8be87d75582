use Rattle.lx_opening.proofs.Opened.{call_given}
use Rattle.lx_code.specs.Targets.{target_of}
use Rattle.lx_opening.proofs.grants.grant_calls.Goals as goal

pub loop-function-preserved : goal.loop-function-preserved
loop-function-preserved g c = λ h k.
    call_given g.C.CapStore.stands c.grant_target.new.caps c.args.code.now c.args.home c.loop-function.function (target_of c.target.result) h c.target.ensures
    (c.in_ok-grant_target.ensures _ (c.loop-function.invariant h k))
