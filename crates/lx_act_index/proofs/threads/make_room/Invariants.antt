-- All threads are as they were.
use Rattle.std.proofs.Common.{◌≡◌, ◌+◌, ◌-◌, ℕ, length}
use Rattle.lx_act_index.specs.Threads.{thread_at}
use Rattle.lx_act_index.proofs.threads.make_room.Given as goal

abbrev pub invariant-loop-alloc : goal.invariant-loop-alloc
invariant-loop-alloc l = (t : ℕ) → thread_at l.threads.items t ≡ thread_at l.fn.threads.items t

abbrev pub decreases-loop-alloc : goal.decreases-loop-alloc
decreases-loop-alloc l = l.thread + 1 - length l.threads.items
