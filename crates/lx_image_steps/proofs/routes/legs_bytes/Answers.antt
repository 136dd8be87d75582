use Rattle.std.proofs.Common.{arith}
use Rattle.lx_image_steps.specs.Standing.{run_of}
use Rattle.lx_image_steps.proofs.Legs.{all_gone, gone_on, none_gone}
use Rattle.lx_image_steps.proofs.routes.legs_bytes.Goals as goal

pub loop-place-init : goal.loop-place-init
loop-place-init c = none_gone c.args.code.now.program (run_of c.args.code.now c.args.run.now) c.args.legs.now c.args.indices.now

pub loop-place-preserved : goal.loop-place-preserved
loop-place-preserved c =
    let few = c.min-place-end.ensures in
    let more = c.loop-place-test.true in
    gone_on c.args.code.now.program (run_of c.args.code.now c.args.run.now) c.args.legs.now c.args.indices.now c.loop-place.place c.loop-place.offset c.leg_bytes-offset.result _
    c.index-indices-place.result c.operand-index.result (omega (arith, few, more)) c.operand-index.ensures c.leg_bytes-offset.ensures c.loop-place.invariant

pub returns : goal.returns
returns c =
    let p = c.args.code.now.program in
    let few = c.min-place-end.ensures in
    let over = c.loop-place-test.false in
    all_gone p (run_of c.args.code.now c.args.run.now) c.args.legs.now c.args.indices.now c.loop-place.place c.loop-place.offset (omega (arith, few, over)) (omega arith) c.loop-place.invariant
