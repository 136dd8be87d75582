use Rattle.lx_caplock.specs.Seats.{IsSeatOf, view_of}
use Rattle.lx_caplock.specs.Calls.{IsSameSeat}
use Rattle.lx_threads.specs.Working.{HasWorked}
use Rattle.lx_threads.proofs.work.work.Given as goal

abbrev pub invariant-loop : goal.invariant-loop
invariant-loop g l = record {
  of : IsSeatOf l.lock l.seat;
  same : IsSameSeat (view_of l.fn.worker.seat) (view_of l.seat);
  worked : HasWorked g.T.Part.stands g.N.Asker.stands (g.N.Asker.machine l.code) l.code l.fn.worker (record { thread = l.fn.worker.thread; seat = l.seat; runner = l.runner });
}
