use Rattle.std.proofs.Common.{arith}
use Rattle.lx_opening.proofs.PutBytes.{put_none, put_more, put_all}
use Rattle.lx_opening.proofs.bytes.write_bytes.Goals as goal

pub loop-place-init : goal.loop-place-init
loop-place-init c = λ m shown. put_none c.args.space.now c.args.at m shown

pub loop-place-preserved : goal.loop-place-preserved
loop-place-preserved c = λ m shown.
    put_more c.write_byte.new.space c.args.at c.args.bytes.now c.loop-place.place 0 m c.loop-place-test.true (c.write_byte.ensures _ (c.loop-place.invariant m shown))

pub returns : goal.returns
returns c = λ m shown.
    put_all c.loop-place.space c.args.at c.args.bytes.now c.loop-place.place m (omega (arith, c.loop-place-test.false)) (c.loop-place.invariant m shown)
