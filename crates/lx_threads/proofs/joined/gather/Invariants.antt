use Rattle.std.proofs.Common.{◌≡◌, map, length, ◌++◌}
use Rattle.lx_caplock.specs.Seats.{IsSeatOf, view_of}
use Rattle.lx_threads.specs.Gathered.{AreSeated, HasGathered}
use Rattle.lx_threads.proofs.joined.gather.Given as goal

abbrev pub invariant-loop-worker : goal.invariant-loop-worker
invariant-loop-worker g l = record {
  of : IsSeatOf l.lock l.seat;
  left : l.fn.workers.items ≡ l.yielded ++ l.worker-iterator.rest.items;
  gathered : HasGathered (view_of l.initial.seat) l.yielded (view_of l.seat);
  runners : l.list.items ≡ map (λ w. w.runner) l.yielded;
  seated : AreSeated l.lock (length l.yielded) l.worker-iterator.rest.items;
}
