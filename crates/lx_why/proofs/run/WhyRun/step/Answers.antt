use Rattle.std.proofs.Common.{◌≡◌, ◌∙◌, ap, sym, Result, Err}
use Rattle.lx_world.specs.declared.fault.EventFault.{EventFault}
use Rattle.lx_images.specs.ImageWorld.{image_opening, image_run}
use Rattle.lx_simulation.specs.Images.{code_of}
use Rattle.lx_why.specs.Why.{behind}
use Rattle.lx_why.proofs.Standing.{gone_on, moved}
use Rattle.lx_why.proofs.run.WhyRun.step.Goals as goal

pub returns-in-Ok-clause-event : goal.returns-in-Ok-clause-event
returns-in-Ok-clause-event g c = λ p script s st.
    gone_on _ p script s c.args.thread c.prepare.new.self c.event.new.self c.in-Ok.ensures.event (c.in_ok-prepare.ensures.ok p script s st).stands_for

pub returns-in-Err-clause-fault : goal.returns-in-Err-clause-fault
returns-in-Err-clause-fault g c = λ p script s st.
    moved _ p script s c.prepare.new.self c.event.new.self c.in-Err.ensures.fault (c.in_ok-prepare.ensures.ok p script s st).stands_for

-- an error is the same whatever the value would be
same_error : {T U E : Type 0} (f e : E) → ◌≡◌ {A = Result T E} (Err f) (Err e) → ◌≡◌ {A = Result U E} (Err f) (Err e)
same_error f e is = let same : f ≡ e = cc in ap Err same

-- a thread that was prepared has work
pub returns-in-Err-clause-unchanged : goal.returns-in-Err-clause-unchanged
returns-in-Err-clause-unchanged g c = λ p script s st is.
    let laws = c.simulation_laws.ensures in
    let ready = (c.in_ok-prepare.ensures.ok p script s st).stands_for in
    let code = code_of p ready.images in
    let v = image_run code s (image_opening code script) in
    let idle = (c.in-Err.ensures.no_work code v ready.world).0 (same_error c.in-Err.fault (EventFault.NoWork c.args.thread) is) in
    let acts = laws.showing.acts code (behind p script s) v (laws.guarded_runs code ready.accepted ready.guarded script s) c.args.thread in
    let e = (c.in_ok-prepare.ensures.no_work p script s st).1 (sym acts ∙ idle) in
    absurd (cc)
