use Rattle.std.proofs.Common.{rules, arith, ◌∙◌, sym, ap, subst, ℕ, map, [], ◌∷◌, ◌++◌, length, length-append, append_assoc}
use Rattle.std.proofs.lemmas.List.{map-append}
use Rattle.lx_caplock.specs.Seats.{view_of}
use Rattle.lx_threads.specs.Gathered.{AreSeated, HasGathered}
use Rattle.lx_threads.proofs.Gathering.{gathered_none, gathered_more, all_taken}
use Rattle.lx_threads.proofs.joined.gather.Goals as goal

pub loop-worker-init : goal.loop-worker-init
loop-worker-init g c = record {
  of = c.requires.of;
  left = search rules;
  gathered = gathered_none c.args.lock.now (view_of c.args.seat.now) c.args.seat.now.rest.within_seats;
  runners = search rules;
  seated = subst (AreSeated c.args.lock.now 0) (sym c.into_iter-worker-iterator.ensures.into_iter_gives.0) c.requires.seated;
}

pub join-requires : goal.join-requires
join-requires g c = (c.loop-worker.invariant.of, (subst (AreSeated c.args.lock.now (length c.loop-worker.yielded)) c.in-Some.ensures.steps.0 c.loop-worker.invariant.seated).0.of)

pub loop-worker-preserved : goal.loop-worker-preserved
loop-worker-preserved g c =
    let i = c.loop-worker.invariant in
    let w = c.in-Some.worker in
    let seated = subst (AreSeated c.args.lock.now (length c.loop-worker.yielded)) c.in-Some.ensures.steps.0 i.seated in record {
      of = c.join.ensures.of;
      left = i.left ∙ (ap (λ l. c.loop-worker.yielded ++ l) c.in-Some.ensures.steps.0 ∙ sym (append_assoc c.loop-worker.yielded (w ∷ []) c.next.new.self.rest.items));
      gathered = gathered_more c.args.lock.now (view_of c.args.seat.now) (view_of c.loop-worker.seat) (view_of c.join.new.seat) c.loop-worker.yielded w i.gathered seated.0 c.join.ensures.joined;
      runners = c.in_ok-push.ensures.items ∙ (ap (λ l. l ++ w.runner ∷ []) i.runners ∙ sym (map-append (λ x. x.runner) c.loop-worker.yielded (w ∷ [])));
      seated = subst (λ (n : ℕ). AreSeated c.args.lock.now n c.next.new.self.rest.items) (omega (arith, length-append c.loop-worker.yielded (w ∷ []))) seated.1;
    }

pub returns-clause-of : goal.returns-clause-of
returns-clause-of g c = c.loop-worker.invariant.of

pub returns-clause-gathered : goal.returns-clause-gathered
returns-clause-gathered g c =
    let i = c.loop-worker.invariant in
    let none = c.in-None.ensures.steps.0 in
    subst (λ l. HasGathered (view_of c.args.seat.now) l (view_of c.loop-worker.seat))
    (all_taken c.loop-worker.yielded c.args.workers.items c.loop-worker.worker-iterator.rest.items i.left (omega (arith, none, c.loop-worker.worker-iterator.rest.ok.0))) i.gathered

pub returns-clause-runners : goal.returns-clause-runners
returns-clause-runners g c =
    let i = c.loop-worker.invariant in
    let none = c.in-None.ensures.steps.0 in
    i.runners ∙ ap (map (λ w. w.runner)) (all_taken c.loop-worker.yielded c.args.workers.items c.loop-worker.worker-iterator.rest.items i.left (omega (arith, none, c.loop-worker.worker-iterator.rest.ok.0)))
