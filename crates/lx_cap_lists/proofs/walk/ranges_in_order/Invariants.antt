use Rattle.std.proofs.Common.{◌+◌, ◌*◌, ◌^◌, ◌<◌, drop}
use Rattle.lx_cap_lists.specs.Parts.{is_among}
use Rattle.lx_cap_lists.specs.Walk.{HasWalked}
use Rattle.lx_cap_lists.proofs.walk.ranges_in_order.Given as goal

abbrev pub invariant-loop-bytes : goal.invariant-loop-bytes
invariant-loop-bytes l =
    (l.walk.at_hand.part * 64 + 64 < 2 ^ 64) × HasWalked (λ b. is_among b l.sorted) l.done.items l.walk (drop l.bytes-index l.sorted)
