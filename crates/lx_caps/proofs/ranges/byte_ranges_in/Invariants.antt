use Rattle.std.proofs.Common.{◌-◌, ◌^◌, reverse}
use Rattle.lx_caps.specs.declared.Atom.TheVariants.{Byte}
use Rattle.lx_caps.specs.History.{owns}
use Rattle.lx_caps.specs.NextByte.{behind}
use Rattle.lx_caps.proofs.RangeSteps.{Ranged}
use Rattle.lx_caps.proofs.ranges.byte_ranges_in.Given as goal

abbrev pub invariant-loop-at : goal.invariant-loop-at
invariant-loop-at l = Ranged (λ n. owns (reverse l.acts) l.who (Byte n)) (behind l.after) l.ranges.items

abbrev pub decreases-loop-at : goal.decreases-loop-at
decreases-loop-at l = 2 ^ 64 - behind l.after
