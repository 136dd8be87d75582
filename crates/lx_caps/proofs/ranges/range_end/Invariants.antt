use Rattle.std.proofs.Common.{◌-◌, ◌^◌, reverse}
use Rattle.lx_caps.specs.declared.Atom.TheVariants.{Byte}
use Rattle.lx_caps.specs.History.{owns}
use Rattle.lx_caps.proofs.RangeSteps.{Reaches}
use Rattle.lx_caps.proofs.ranges.range_end.Given as goal

abbrev pub invariant-loop-next : goal.invariant-loop-next
invariant-loop-next l = Reaches (λ n. owns (reverse l.acts) l.who (Byte n)) l.at l.last

abbrev pub decreases-loop-next : goal.decreases-loop-next
decreases-loop-next l = 2 ^ 64 - l.last
