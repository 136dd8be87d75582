use Rattle.std.proofs.Common.{◌+◌, ◌*◌, length}
use Rattle.lx_slot_sums.proofs.spread.+asking.Given as goal

abbrev pub decreases-sum_at : goal.decreases-sum_at
decreases-sum_at l = 2 * length l.spreads.now + 1

abbrev pub decreases-sum_of : goal.decreases-sum_of
decreases-sum_of l = 2 * length l.spreads.now
