use Rattle.std.proofs.Common.{[], arith, reverse}
use mathlib.Core.List.{append-nil}
use Rattle.lx_caps.specs.declared.Atom.TheVariants.{Byte}
use Rattle.lx_caps.specs.History.{owns}
use Rattle.lx_caps.specs.Placed.{AllPlaced-reverse}
use Rattle.lx_caps.proofs.OwnerLemmas.{last_free}
use Rattle.lx_caps.proofs.RangeSteps.{none_ranged, one_ranged, falls}
use Rattle.lx_caps.proofs.ranges.byte_ranges_in.Goals as goal

pub loop-at-init : goal.loop-at-init
loop-at-init c = none_ranged (λ n. owns (reverse c.args.acts.now) c.args.who (Byte n)) c.new-ranges.result.items c.new-ranges.ensures.items

pub loop-at-smaller : goal.loop-at-smaller
loop-at-smaller c =
    falls (λ n. owns (reverse c.args.acts.now) c.args.who (Byte n)) _ c.in-Some.at c.range_end-last.result c.in-Some.ensures.first c.range_end-last.ensures.order c.range_end-last.ensures.small

pub loop-at-preserved : goal.loop-at-preserved
loop-at-preserved c =
    one_ranged (λ n. owns (reverse c.args.acts.now) c.args.who (Byte n)) _ c.in-Some.at c.range_end-last.result c.saturating_add-size.result _ _
    (last_free (reverse c.args.acts.now) c.args.who (AllPlaced-reverse c.args.acts.now c.requires)) c.loop-at.invariant c.in-Some.ensures.first
    c.range_end-last.ensures.order c.range_end-last.ensures.small c.range_end-last.ensures.all c.range_end-last.ensures.end
    (λ lt. grind (arith, c.saturating_add-size.ensures, lt, c.range_end-last.ensures.order)) c.in_ok-push.ensures.items

pub returns : goal.returns
returns c = rw append-nil at (c.loop-at.invariant [] c.in_default.ensures.first)
