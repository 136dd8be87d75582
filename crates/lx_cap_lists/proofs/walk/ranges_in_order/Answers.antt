use Rattle.std.proofs.Common.{rules, refl, arith}
use Rattle.lx_cap_lists.specs.Parts.{is_among}
use Rattle.lx_cap_lists.proofs.MoreParts.{begins, one_more, none_more, finishes}
use Rattle.lx_cap_lists.proofs.walk.ranges_in_order.Goals as goal

pub loop-bytes-init : goal.loop-bytes-init
loop-bytes-init c = (omega arith, begins _ _ c.args.sorted.now c.new-done.ensures.items refl refl refl refl c.requires.sorted)

pub loop-bytes-preserved : goal.loop-bytes-preserved
loop-bytes-preserved c = (
  c.in_ok-walk.ensures.fits,
  one_more (λ b. is_among b c.args.sorted.now) _ _ _ _ c.args.sorted.now c.loop-bytes.bytes-index _ (search rules) (c.in_ok-walk.ensures.walks (λ b. is_among b c.args.sorted.now)) c.loop-bytes.invariant.1,
)

pub returns : goal.returns
returns c =
    finishes (λ b. is_among b c.args.sorted.now) _ _ _ c.loop-bytes.walk c.in_ok-last.last (none_more (λ b. is_among b c.args.sorted.now) _ _ c.args.sorted.now c.loop-bytes.bytes-index (search rules) c.loop-bytes.invariant.1)
    (c.in_ok-last.ensures (λ b. is_among b c.args.sorted.now)) c.in_ok-put_span.ensures
