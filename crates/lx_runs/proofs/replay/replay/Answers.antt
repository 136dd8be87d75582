use Rattle.std.proofs.Common.{◌≡◌, ◌∙◌, sym, ap, subst, ◌+◌, Some, false, length, drop, get_or, arith}
use Rattle.std.proofs.lemmas.Bool.{true_from_ne_false}
use Rattle.lx_model.specs.World.{can_act}
use Rattle.lx_images.specs.ImageWorld.{ImageWorld, image_event}
use Rattle.lx_images.specs.Shown.{shown}
use Rattle.lx_world.specs.Worlds.{StandsForWorld}
use Rattle.lx_runs.proofs.Replays.{at_entry, at_last, broken_here, broken_at_end, broken_nowhere, one_less}
use Rattle.lx_runs.proofs.replay.replay.Goals as goal

pub returns-in-Err-NoWork-clause-broken : goal.returns-in-Err-NoWork-clause-broken
returns-in-Err-NoWork-clause-broken g c = λ d v stands.
    let s = c.args.schedule.now in
    let n = c.loop-entry.entry in
    let left = c.loop-entry.invariant d v stands in
    let number = c.in-Err-NoWork.ensures.number c.in-Err-NoWork.field-0-0 cc in
    let idle : can_act (shown left.0) (get_or s n 0) ≡ false = (c.in-Err-NoWork.ensures.no_work d left.0 left.1).0 cc in
    sym (broken_here d s v n (get_or s n 0) (drop (n + 1) s) left.0 (at_entry d s v n left.0 c.loop-entry-test.true left.2) idle)

pub loop-entry-preserved : goal.loop-entry-preserved
loop-entry-preserved g c = λ d v stands.
    let s = c.args.schedule.now in
    let n = c.loop-entry.entry in
    let left = c.loop-entry.invariant d v stands in
    let works = true_from_ne_false (can_act (shown left.0) (get_or s n 0)) (λ idle. let e = (c.in-Ok.ensures.no_work d left.0 left.1).1 idle in cc) in (
      image_event d (get_or s n 0) left.0,
      c.in-Ok.ensures.event d left.0 left.1,
      one_less d s v n (get_or s n 0) (drop (n + 1) s) left.0 (at_entry d s v n left.0 c.loop-entry-test.true left.2) works,
    )

pub returns-then-done-clause-broken : goal.returns-then-done-clause-broken
returns-then-done-clause-broken g c = λ d v stands.
    let s = c.args.schedule.now in
    let n = c.loop-entry.entry in
    let left = c.loop-entry.invariant d v stands in
    sym (broken_nowhere d s v n left.0 (at_last d s v n left.0 c.loop-entry-test.false left.2) (sym (c.done.ensures d left.0 left.1) ∙ c.if-done.true))

pub returns-then-done-clause-whole : goal.returns-then-done-clause-whole
returns-then-done-clause-whole g c = λ d v stands _.
    let s = c.args.schedule.now in
    let left = c.loop-entry.invariant d v stands in
    let last = at_last d s v c.loop-entry.entry left.0 c.loop-entry-test.false left.2 in
    subst (λ (x : ImageWorld). StandsForWorld g.C.CapStore.stands d c.loop-entry.world x) last.ran left.1

pub returns-else-done-clause-broken : goal.returns-else-done-clause-broken
returns-else-done-clause-broken g c = λ d v stands.
    let s = c.args.schedule.now in
    let n = c.loop-entry.entry in
    let left = c.loop-entry.invariant d v stands in
    let ended : length s ≡ n = omega (arith, c.loop-entry-test.false, c.loop-entry.auto.entry-end) in
    ap Some ended ∙ sym (broken_at_end d s v n left.0 (at_last d s v n left.0 c.loop-entry-test.false left.2) (sym (c.done.ensures d left.0 left.1) ∙ c.if-done.false))
