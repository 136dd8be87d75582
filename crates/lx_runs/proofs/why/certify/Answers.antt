use Rattle.std.proofs.Common.{◌≡◌, ◌∙◌, sym, ap, false, length, take, get_or, Some, arith}
use Rattle.std.proofs.lemmas.Bool.{true_from_ne_false}
use Rattle.lx_model.specs.World.{can_act}
use Rattle.lx_why.specs.Why.{behind}
use Rattle.lx_runs.proofs.Certifying.{all_certified, one_certified}
use Rattle.lx_runs.proofs.Walked.{broken_here, none_left, work_left}
use Rattle.lx_runs.proofs.why.certify.Goals as goal

pub returns-in-Err-NoWork-clause-broken : goal.returns-in-Err-NoWork-clause-broken
returns-in-Err-NoWork-clause-broken g c = λ p script st.
    let s = c.args.schedule.now in
    let n = c.loop-entry.entry in
    let has = c.loop-entry.invariant p script st in
    let number = c.in-Err-NoWork.ensures.number c.in-Err-NoWork.field-0-0 cc in
    let idle : can_act (behind p script (take n s)) (get_or s n 0) ≡ false = (c.in-Err-NoWork.ensures.no_work p script (take n s) has.stands_for).0 cc in
    sym (broken_here p script s n c.loop-entry-test.true has.broken idle)

pub loop-entry-preserved : goal.loop-entry-preserved
loop-entry-preserved g c = λ p script st.
    let s = c.args.schedule.now in
    let n = c.loop-entry.entry in
    let has = c.loop-entry.invariant p script st in
    let works = true_from_ne_false (can_act (behind p script (take n s)) (get_or s n 0)) (λ idle. let e = (c.in-Ok.ensures.no_work p script (take n s) has.stands_for).1 idle in cc) in
    one_certified _ p script s n c.loop-entry.run c.step.new.self c.loop-entry.out.items c.push_certs.new.out.items c.in-Ok.certs c.loop-entry-test.true has works
    (c.in-Ok.ensures.event p script (take n s) has.stands_for) (c.in-Ok.ensures.certs p script (take n s) has.stands_for) c.in_ok-push_certs-in-Ok.ensures

pub returns-then-done-clause-broken : goal.returns-then-done-clause-broken
returns-then-done-clause-broken g c = λ p script st.
    let s = c.args.schedule.now in
    let n = c.loop-entry.entry in
    let has = c.loop-entry.invariant p script st in
    sym (none_left p script s n c.loop-entry-test.false has.broken (sym (c.done.ensures p script (take n s) has.stands_for) ∙ c.if-done.true))

pub returns-then-done-clause-whole : goal.returns-then-done-clause-whole
returns-then-done-clause-whole g c = λ p script st none.
    let s = c.args.schedule.now in
    let n = c.loop-entry.entry in
    all_certified _ p script s n c.loop-entry.run c.loop-entry.out.items c.loop-entry-test.false (c.loop-entry.invariant p script st)

pub returns-else-done-clause-broken : goal.returns-else-done-clause-broken
returns-else-done-clause-broken g c = λ p script st.
    let s = c.args.schedule.now in
    let n = c.loop-entry.entry in
    let has = c.loop-entry.invariant p script st in
    let ended : length s ≡ n = omega (arith, c.loop-entry-test.false, c.loop-entry.auto.entry-end) in
    ap Some ended ∙ sym (work_left p script s n c.loop-entry-test.false has.broken (sym (c.done.ensures p script (take n s) has.stands_for) ∙ c.if-done.false))
