use Rattle.std.proofs.Common.{◌≡◌, ◌∙◌, ap, sym, Err, Result, Some}
use Rattle.lx_simulation.specs.Images.{code_of}
use Rattle.lx_world.specs.declared.fault.EventFault.{EventFault}
use Rattle.lx_trace.specs.Run.{image_behind}
use Rattle.lx_trace.specs.Trace.{behind}
use Rattle.lx_trace.proofs.Behind.{answered_is}
use Rattle.lx_trace.proofs.Standing.{gone_on, stays}
use Rattle.lx_trace.proofs.run.TraceRun.step.Goals as goal

pub returns-in-Ok-clause-traced : goal.returns-in-Ok-clause-traced
returns-in-Ok-clause-traced g c = λ p script s st.
    let run = (c.in_ok-asked.ensures.stands p script s st).of_run in
    let code = code_of p run.images in
    let v = image_behind p run.images script s in
    answered_is c.simulation_laws.ensures code run.accepted run.guarded script s c.args.thread c.in_ok-asked.asked c.in-Ok.reply
    (c.in_ok-asked.ensures.asked p script s st) (λ u got. c.in-Ok.ensures.reply code v u run.world got) ∙ ap Some (sym c.answered.ensures)

pub returns-in-Ok-clause-event : goal.returns-in-Ok-clause-event
returns-in-Ok-clause-event g c = λ p script s st.
    gone_on _ p script s c.args.thread c.prepare.new.self c.answer.new.self c.in-Ok.ensures.event c.in-Ok.ensures.exact (c.in_ok-asked.ensures.stands p script s st)

pub returns-in-Err-clause-fault : goal.returns-in-Err-clause-fault
returns-in-Err-clause-fault g c = λ p script s st.
    stays _ p script s c.prepare.new.self c.answer.new.self c.in-Err.ensures.fault (c.in_ok-asked.ensures.stands p script s st).of_run

-- an error is the same whatever the value would be
same_error : {T U E : Type 0} (f e : E) → ◌≡◌ {A = Result T E} (Err f) (Err e) → ◌≡◌ {A = Result U E} (Err f) (Err e)
same_error f e is = let same : f ≡ e = cc in ap Err same

pub returns-in-Err-clause-no_work : goal.returns-in-Err-clause-no_work
returns-in-Err-clause-no_work g c = λ p script s st.
    let laws = c.simulation_laws.ensures in
    let t = c.args.thread in
    let run = (c.in_ok-asked.ensures.stands p script s st).of_run in
    let code = code_of p run.images in
    let v = image_behind p run.images script s in
    let both = c.in-Err.ensures.no_work code v run.world in
    let acts = laws.showing.acts code (behind p script s) v (laws.guarded_runs code run.accepted run.guarded script s) t in (
      λ is. sym acts ∙ both.0 (same_error c.in-Err.fault (EventFault.NoWork t) is),
      λ idle. same_error c.in-Err.fault (EventFault.NoWork t) (both.1 (acts ∙ idle)),
    )

-- a thread that was prepared has work
pub returns-in-Err-clause-unchanged : goal.returns-in-Err-clause-unchanged
returns-in-Err-clause-unchanged g c = λ p script s st is.
    let laws = c.simulation_laws.ensures in
    let t = c.args.thread in
    let run = (c.in_ok-asked.ensures.stands p script s st).of_run in
    let code = code_of p run.images in
    let v = image_behind p run.images script s in
    let idle = (c.in-Err.ensures.no_work code v run.world).0 (same_error c.in-Err.fault (EventFault.NoWork t) is) in
    let acts = laws.showing.acts code (behind p script s) v (laws.guarded_runs code run.accepted run.guarded script s) t in
    let e = (c.in_ok-asked.ensures.no_work p script s st).1 (sym acts ∙ idle) in
    absurd (cc)
