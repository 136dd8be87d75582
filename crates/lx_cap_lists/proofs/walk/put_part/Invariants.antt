use Rattle.std.proofs.Common.{ℕ, ◌+◌, ◌-◌, ◌*◌, ◌≤◌, Bool}
use Rattle.lx_cap_lists.specs.Parts.{IsPartOf}
use Rattle.lx_cap_lists.specs.Runs.{AreRangesUpTo}
use Rattle.lx_cap_lists.proofs.walk.put_part.Given as goal

abbrev pub invariant-loop-from : goal.invariant-loop-from
invariant-loop-from l =
    (l.place ≤ 64) × ((p : ℕ → Bool) → IsPartOf p l.bytes → AreRangesUpTo p l.fn.done.items l.fn.last (l.bytes.part * 64) → AreRangesUpTo p l.done.items l.last (l.bytes.part * 64 + l.place))

abbrev pub decreases-loop-from : goal.decreases-loop-from
decreases-loop-from l = 64 - l.place
