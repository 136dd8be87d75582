use Rattle.std.proofs.Common.{rules, arith, ◌≡◌, ◌∙◌, ◌+◌, ◌++◌, sym, ap, subst, [], ◌∷◌, length, length-append, append_assoc, map}
use Rattle.std.proofs.lemmas.List.{map-append}
use Rattle.lx_caplock.specs.declared.knowledge.View.{View}
use Rattle.lx_caplock.specs.Seats.{view_of, number_of, out_of}
use Rattle.lx_caplock.specs.Views.{with_numbers_out}
use Rattle.lx_threads.specs.declared.worker.Worker.{Worker}
use Rattle.lx_threads.specs.Dealt.{AreRising}
use Rattle.lx_threads.proofs.Dealing.{dealt_more, all_dealt}
use Rattle.lx_threads.proofs.Gathering.{all_taken}
use Rattle.lx_threads.proofs.seats.deal.Goals as goal

pub loop-runner-preserved : goal.loop-runner-preserved
loop-runner-preserved g c =
    let i = c.loop-runner.invariant in
    let v : View g.row.T.Denot = view_of c.args.seat.now in
    let w : Worker g.row.T.Denot g.row.N.Denot = record { thread = c.len-thread.result; seat = c.in_ok-new.new; runner = c.in-Some.runner } in
    let then = c.in_ok-new.ensures.divider in
    record {
      of = c.further.ensures.of;
      left = i.left ∙ (ap (λ l. c.loop-runner.yielded ++ l) c.in-Some.ensures.steps.0 ∙ sym (append_assoc c.loop-runner.yielded (c.in-Some.runner ∷ []) c.next.new.self.rest.items));
      rising = subst (AreRising c.args.lock.now v 0 1 (out_of c.further.new.seat)) (sym c.in_ok-push.ensures.items)
          (dealt_more c.args.lock.now v c.loop-runner.seat c.further.new.seat w c.loop-runner.workers.items i.rising i.own c.in_ok-new.ensures.new then (search rules));
      own = then ∙ (ap (λ (u : View g.row.T.Denot). with_numbers_out u (number_of c.in_ok-new.new + 1)) i.own ∙ ap (with_numbers_out v) (sym (ap (λ (u : View g.row.T.Denot). u.out) then)));
      runners = ap (map (λ x. x.runner)) c.in_ok-push.ensures.items ∙ (map-append (λ x. x.runner) c.loop-runner.workers.items (w ∷ []) ∙ ap (λ l. l ++ c.in-Some.runner ∷ []) i.runners);
      many = omega (arith, ap length c.in_ok-push.ensures.items, length-append c.loop-runner.workers.items (w ∷ []), length-append c.loop-runner.yielded (c.in-Some.runner ∷ []), i.many);
    }

pub returns-clause-own : goal.returns-clause-own
returns-clause-own g c =
    let i = c.loop-runner.invariant in
    let v : View g.row.T.Denot = view_of c.args.seat.now in
    let seats : (view_of c.loop-runner.seat).seats ≡ v.seats = ap (λ (u : View g.row.T.Denot). u.seats) i.own in
    let within_seats = c.loop-runner.seat.rest.within_seats in
    let none = c.in-None.ensures.steps.0 in
    let taken = all_taken c.loop-runner.yielded c.args.runners.items c.loop-runner.runner-iterator.rest.items i.left (omega (arith, none, c.loop-runner.runner-iterator.rest.ok.0)) in
    let all = all_dealt c.args.lock.now v (out_of c.loop-runner.seat) (length c.args.runners.items) c.loop-runner.workers.items i.rising (omega (arith, within_seats, seats, c.requires.first.seats)) (i.many ∙ ap length taken) in
    i.own ∙ ap (with_numbers_out v) all.0

pub returns-clause-dealt : goal.returns-clause-dealt
returns-clause-dealt g c =
    let i = c.loop-runner.invariant in
    let v : View g.row.T.Denot = view_of c.args.seat.now in
    let seats : (view_of c.loop-runner.seat).seats ≡ v.seats = ap (λ (u : View g.row.T.Denot). u.seats) i.own in
    let within_seats = c.loop-runner.seat.rest.within_seats in
    let none = c.in-None.ensures.steps.0 in
    let taken = all_taken c.loop-runner.yielded c.args.runners.items c.loop-runner.runner-iterator.rest.items i.left (omega (arith, none, c.loop-runner.runner-iterator.rest.ok.0)) in
    let all = all_dealt c.args.lock.now v (out_of c.loop-runner.seat) (length c.args.runners.items) c.loop-runner.workers.items i.rising (omega (arith, within_seats, seats, c.requires.first.seats)) (i.many ∙ ap length taken) in
    all.1

pub returns-clause-runners : goal.returns-clause-runners
returns-clause-runners g c =
    let i = c.loop-runner.invariant in
    let none = c.in-None.ensures.steps.0 in
    i.runners ∙ all_taken c.loop-runner.yielded c.args.runners.items c.loop-runner.runner-iterator.rest.items i.left (omega (arith, none, c.loop-runner.runner-iterator.rest.ok.0))
