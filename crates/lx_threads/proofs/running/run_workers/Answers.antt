use Rattle.std.proofs.Common.{rules, arith, ◌≡◌, ◌∙◌, ◌+◌, sym, ap, subst, List, length, map}
use Rattle.std.specs.Prelude.{Some}
use Rattle.std.proofs.lemmas.List.{length-map}
use Rattle.lx_caplock.specs.declared.knowledge.View.{View}
use Rattle.lx_caplock.specs.Seats.{view_of}
use Rattle.lx_threads.specs.declared.worker.Worker.{Worker}
use Rattle.lx_threads.specs.Working.{AllStand, HasRun}
use Rattle.lx_threads.proofs.Together.{may_all, all_after, seated, alone, ran}
use Rattle.lx_threads.proofs.running.run_workers.Goals as goal

pub work_all-requires-after_bounds : goal.work_all-requires-after_bounds
work_all-requires-after_bounds g c κs within =
    let v : View g.row.T.Denot = view_of c.in_ok-lock.seat in
    let opened = c.in_ok-lock.ensures.first in
    let opened_part : v.opened_part ≡ Some c.args.part = ap (λ (u : View g.row.T.Denot). u.opened_part) opened in
    let ws = c.in_ok-workers.workers.items in
    let dealt = c.in_ok-workers.ensures.dealt in
    let kept = c.in_ok-workers.ensures.runners in
    let many : length ws ≡ length c.args.runners.items = sym (length-map ws (λ (w : Worker g.row.T.Denot g.row.N.Denot). w.runner)) ∙ ap length kept in
    let threads = c.requires.may.threads in
    may_all g.T.Part.program g.T.Part.stands g.T.Part.takes g.T.Part.lacks g.N.Asker.program g.N.Asker.stands g.N.Asker.fits g.N.Asker.lacks (g.N.Asker.machine c.args.code.now) c.args.code.now c.in_ok-lock.lock v c.args.part opened_part c.requires.may.same
    c.requires.may.state c.requires.may.served 0 ws threads.0 dealt (subst (λ (l : List g.row.N.Denot). AllStand g.N.Asker.stands c.args.code.now 0 l threads.0) (sym kept) threads.1) (omega (arith, many, c.requires.few))

pub gather-requires-clause-seated : goal.gather-requires-clause-seated
gather-requires-clause-seated g c =
    let v : View g.row.T.Denot = view_of c.in_ok-lock.seat in
    let opened = c.in_ok-lock.ensures.first in
    let opened_part : v.opened_part ≡ Some c.args.part = ap (λ (u : View g.row.T.Denot). u.opened_part) opened in
    let ws = c.in_ok-workers.workers.items in
    let dealt = c.in_ok-workers.ensures.dealt in
    let kept = c.in_ok-workers.ensures.runners in
    let many : length ws ≡ length c.args.runners.items = sym (length-map ws (λ (w : Worker g.row.T.Denot g.row.N.Denot). w.runner)) ∙ ap length kept in
    let zs = c.in_ok-done.done.items in
    let all = all_after g.T.Part.program g.T.Part.stands g.T.Part.takes g.T.Part.lacks g.N.Asker.program g.N.Asker.stands g.N.Asker.fits g.N.Asker.lacks (g.N.Asker.machine c.args.code.now) c.args.code.now c.in_ok-lock.lock v c.args.part opened_part c.requires.may.same ws zs c.in_ok-done.ensures.many c.in_ok-done.ensures.each in
    seated g.T.Part.program g.T.Part.stands g.T.Part.takes g.T.Part.lacks g.N.Asker.program g.N.Asker.stands g.N.Asker.fits g.N.Asker.lacks (g.N.Asker.machine c.args.code.now) c.args.code.now c.in_ok-lock.lock v c.args.part opened_part c.requires.may.same 0 ws zs dealt all

pub close-part-requires-clause-alone : goal.close-part-requires-clause-alone
close-part-requires-clause-alone g c =
    let v : View g.row.T.Denot = view_of c.in_ok-lock.seat in
    let opened = c.in_ok-lock.ensures.first in
    let opened_part : v.opened_part ≡ Some c.args.part = ap (λ (u : View g.row.T.Denot). u.opened_part) opened in
    let ws = c.in_ok-workers.workers.items in
    let dealt = c.in_ok-workers.ensures.dealt in
    let kept = c.in_ok-workers.ensures.runners in
    let many : length ws ≡ length c.args.runners.items = sym (length-map ws (λ (w : Worker g.row.T.Denot g.row.N.Denot). w.runner)) ∙ ap length kept in
    let zs = c.in_ok-done.done.items in
    let all = all_after g.T.Part.program g.T.Part.stands g.T.Part.takes g.T.Part.lacks g.N.Asker.program g.N.Asker.stands g.N.Asker.fits g.N.Asker.lacks (g.N.Asker.machine c.args.code.now) c.args.code.now c.in_ok-lock.lock v c.args.part opened_part c.requires.may.same ws zs c.in_ok-done.ensures.many c.in_ok-done.ensures.each in
    let first : View g.row.T.Denot = view_of c.deal.new.seat in
    let own = c.in_ok-workers.ensures.own in
    let u : View g.row.T.Denot = view_of c.gather.new.seat in
    let gathered = c.in_ok-list.ensures.gathered in
    let seats : v.seats ≡ length c.args.runners.items + 1 = search rules in
    alone g.T.Part.program g.T.Part.stands g.T.Part.takes g.T.Part.lacks g.N.Asker.program g.N.Asker.stands g.N.Asker.fits g.N.Asker.lacks (g.N.Asker.machine c.args.code.now) c.args.code.now c.in_ok-lock.lock v c.args.part opened_part c.requires.may.same ws zs first u
    (ap (λ (q : View g.row.T.Denot). q.number) opened) (ap (λ (q : View g.row.T.Denot). q.number) own) (ap (λ (q : View g.row.T.Denot). q.seats) own ∙ (seats ∙ ap (λ n. n + 1) (sym many))) all gathered

pub returns : goal.returns
returns g c =
    let v : View g.row.T.Denot = view_of c.in_ok-lock.seat in
    let opened = c.in_ok-lock.ensures.first in
    let opened_part : v.opened_part ≡ Some c.args.part = ap (λ (u : View g.row.T.Denot). u.opened_part) opened in
    let ws = c.in_ok-workers.workers.items in
    let dealt = c.in_ok-workers.ensures.dealt in
    let kept = c.in_ok-workers.ensures.runners in
    let many : length ws ≡ length c.args.runners.items = sym (length-map ws (λ (w : Worker g.row.T.Denot g.row.N.Denot). w.runner)) ∙ ap length kept in
    let zs = c.in_ok-done.done.items in
    let all = all_after g.T.Part.program g.T.Part.stands g.T.Part.takes g.T.Part.lacks g.N.Asker.program g.N.Asker.stands g.N.Asker.fits g.N.Asker.lacks (g.N.Asker.machine c.args.code.now) c.args.code.now c.in_ok-lock.lock v c.args.part opened_part c.requires.may.same ws zs c.in_ok-done.ensures.many c.in_ok-done.ensures.each in
    let first : View g.row.T.Denot = view_of c.deal.new.seat in
    let own = c.in_ok-workers.ensures.own in
    let u : View g.row.T.Denot = view_of c.gather.new.seat in
    let gathered = c.in_ok-list.ensures.gathered in
    let closes = c.close-part.ensures in
    let done = ran g.T.Part.program g.T.Part.stands g.T.Part.takes g.T.Part.lacks g.N.Asker.program g.N.Asker.stands g.N.Asker.fits g.N.Asker.lacks (g.N.Asker.machine c.args.code.now) c.args.code.now c.in_ok-lock.lock v c.args.part opened_part c.requires.may.same ws zs first u c.close-part.result closes.0
    (ap (λ (q : View g.row.T.Denot). q.number) opened) (ap (λ (q : View g.row.T.Denot). q.mine) opened) (ap (λ (q : View g.row.T.Denot). q.ended) opened)
    (ap (λ (q : View g.row.T.Denot). q.opened_part) own) (ap (λ (q : View g.row.T.Denot). q.number) own) (ap (λ (q : View g.row.T.Denot). q.mine) own) (ap (λ (q : View g.row.T.Denot). q.ended) own)
    dealt all gathered closes.1 in
    subst (λ (l : List g.row.N.Denot). HasRun g.T.Part.program g.T.Part.stands g.T.Part.lacks g.N.Asker.stands g.N.Asker.lacks (g.N.Asker.machine c.args.code.now) c.args.code.now c.args.part c.close-part.result c.args.runners.items l) (sym c.in_ok-list.ensures.runners)
    (subst (λ (l : List g.row.N.Denot). HasRun g.T.Part.program g.T.Part.stands g.T.Part.lacks g.N.Asker.stands g.N.Asker.lacks (g.N.Asker.machine c.args.code.now) c.args.code.now c.args.part c.close-part.result l (map (λ w. w.runner) zs)) kept done)
