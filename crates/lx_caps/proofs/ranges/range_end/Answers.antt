use Rattle.std.proofs.Common.{arith, reverse}
use Rattle.std.proofs.lemmas.Bool.Decides.{nat_tests}
use Rattle.lx_caps.specs.declared.Atom.TheVariants.{Byte}
use Rattle.lx_caps.specs.History.{owns}
use Rattle.lx_caps.proofs.RangeSteps.{starts, one_reached}
use Rattle.lx_caps.proofs.ranges.range_end.Goals as goal

pub loop-next-init : goal.loop-next-init
loop-next-init c = starts (λ n. owns (reverse c.args.acts.now) c.args.who (Byte n)) c.args.at (search c.ranges.at) c.requires.owned

pub loop-next-smaller : goal.loop-next-smaller
loop-next-smaller c = grind (arith, nat_tests, c.if-not-touches.ensures, c.in-Some.ensures.small)

pub loop-next-preserved : goal.loop-next-preserved
loop-next-preserved c =
    one_reached (λ n. owns (reverse c.args.acts.now) c.args.who (Byte n)) c.args.at c.loop-next.last c.in-Some.next c.loop-next.invariant
    (grind (arith, nat_tests, c.if-not-touches.ensures)) c.in-Some.ensures.small c.in-Some.ensures.first
