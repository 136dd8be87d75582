use Rattle.std.proofs.Common.{◌≡◌, map, length, ◌++◌}
use Rattle.lx_caplock.specs.Seats.{IsSeatOf, view_of, out_of}
use Rattle.lx_caplock.specs.Views.{with_numbers_out}
use Rattle.lx_threads.specs.Dealt.{AreRising}
use Rattle.lx_threads.proofs.seats.deal.Given as goal

abbrev pub invariant-loop-runner : goal.invariant-loop-runner
invariant-loop-runner g l = record {
  of : IsSeatOf l.lock l.seat;
  left : l.fn.runners.items ≡ l.yielded ++ l.runner-iterator.rest.items;
  rising : AreRising l.lock (view_of l.initial.seat) 0 1 (out_of l.seat) l.workers.items;
  own : view_of l.seat ≡ with_numbers_out (view_of l.initial.seat) (out_of l.seat);
  runners : map (λ w. w.runner) l.workers.items ≡ l.yielded;
  many : length l.workers.items ≡ length l.yielded;
}
